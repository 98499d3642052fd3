-- 02, Ticket 1: a window read back from its block, and the rules that a block keeps.
use Rattle.std.specs.Prelude.{Bool, false, not, cond, ◌&&◌, List, [], ◌∷◌, ℕ, ◌+◌, ◌*◌, ◌-◌, ◌/◌, ◌%◌, eqb, ltb, length, get_or}
use Rattle.endian.specs.Bytes.{any_set}
use Rattle.endian.specs.Loads.{part, values_at}
use Rattle.window.specs.Tests.{all}
use Rattle.window.specs.Block.{flags, block_widths}
use Rattle.window.specs.Fields.{unset, each}
use Rattle.window.specs.declared.fields.Window.{Window}

-- the window of a block's values: those of bucket b are 4 b and the three after it, of which the last is Read's; of the
-- stamps and of the latencies the highest counter's comes first
abbrev pub window_from : List ℕ → Window
window_from v =
    record {
      counters = each (λ n. get_or v (4 * (n / 3) + (3 - n % 3)) 0);
      stamps = each (λ n. get_or v (16 + (11 - n)) 0);
      latencies = each (λ n. get_or v (28 + (11 - n)) 0);
      units = flags 12 (get_or v 40 0);
    }

unfoldable pub window_in : List ℕ → Window
window_in block = window_from (values_at 0 block_widths block)

-- bits 12 to 15 of a mask are zero
abbrev pub of_twelve : ℕ → Bool
of_twelve mask = ltb mask 4096

-- so many bytes from a place on are zero
abbrev pub clear : (at n : ℕ) → List ℕ → Bool
clear at n bytes = not (any_set (part at n bytes))

-- a stamp that is set is below 2^48; where it is unset, counter, measured latency and stamp units are zero
unfoldable pub counter_fits : (counter stamp latency : ℕ) (unit : Bool) → Bool
counter_fits counter stamp latency unit =
    cond (eqb stamp unset) (all (eqb counter 0 ∷ eqb latency 0 ∷ not unit ∷ [])) (ltb stamp 281474976710656)

-- the rules of a window's own fields
unfoldable pub window_fits : Window → Bool
window_fits w =
    let fits : ℕ → Bool =
    λ n. counter_fits (get_or w.counters n 0) (get_or w.stamps n 0) (get_or w.latencies n 0) (get_or w.units n false)
    in
    all (each fits)

-- the rules of a block of 186 bytes whose window is w
unfoldable pub block_keeps : List ℕ → Window → Bool
block_keeps block w =
    all
    (clear 0 4 block  -- the first four bytes of each bucket
    ∷ clear 16 4 block
    ∷ clear 32 4 block
    ∷ clear 48 4 block
    ∷ of_twelve (get_or (values_at 0 block_widths block) 40 0)  -- the mask of the stamp units
    ∷ window_fits w
    ∷ [])

-- whether bytes, however many, are a block that keeps them
unfoldable pub block_fits : List ℕ → Bool
block_fits block = eqb (length block) 186 && block_keeps block (window_in block)
