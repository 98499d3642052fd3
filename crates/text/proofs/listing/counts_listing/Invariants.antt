-- `counts_listing`: the lines of the counters so far are appended.
use Rattle.std.proofs.Common.{◌≡◌, ◌*◌, ◌≤◌, drop}
use Rattle.std.specs.Iterator.Adapters.{enumerate_source, enumerate_count, zip_first, zip_second}
use Rattle.std.specs.Slice.Iter.{iter_rest}
use Rattle.arrayvec.specs.ArrayString.{array_string_len}
use Rattle.text.specs.Listing.{counts_lines}
use Rattle.text.proofs.listing.counts_listing.Given as goal

abbrev pub invariant-loop-n : goal.invariant-loop-n
invariant-loop-n l = record {
  counted : enumerate_count l.n-iterator ≤ 12;
  active : iter_rest (zip_first (enumerate_source l.n-iterator)) ≡ drop (enumerate_count l.n-iterator) l.active_counts;
  static : iter_rest (zip_second (enumerate_source l.n-iterator)) ≡ drop (enumerate_count l.n-iterator) l.static_counts;
  room : array_string_len l.listing ≤ 64 * enumerate_count l.n-iterator;
  lines : l.listing.bytes ≡ counts_lines l.active_counts l.static_counts (enumerate_count l.n-iterator);
}
