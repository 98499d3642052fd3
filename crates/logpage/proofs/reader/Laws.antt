-- Laws of the page's reader: for each way out, what the definitions come to.
use mathlib.Core.Bool.{Bool, true, false, not, ◌&&◌}
use mathlib.Core.List.{List, [], ◌∷◌}
use Rattle.std.specs.Prelude.{None, Some}
use mathlib.Core.Path.{◌≡◌, ◌∙◌, sym, refl, ap}
use Prim.Native.Nat.{ℕ, suc, ◌+◌, ◌<◌}
use borrow.Author.Tests.{eq-eqb, ne_eqb}
use lib.ListN.{length, get_or, drop}
use Rattle.endian.specs.Bytes.{any_set}
use Rattle.endian.specs.Loads.{part, values_at}
use Rattle.endian.proofs.Layouts.{are-bytes, bytes_take, bytes_drop, bounded}
use Rattle.window.specs.BlockReader.{window_in, block_keeps}
use Rattle.logpage.specs.Reader.{head_in, tail_in, Bounded, settings_from, debug_from, fields_in}
use Rattle.logpage.specs.Reader.{head_fits, tail_fits, page_keeps, page_fits, identified, layout_refusal, read_refusal}
use Rattle.logpage.specs.declared.fields.DebugLog.{DebugLog}
use Rattle.logpage.specs.declared.fields.Settings.{Settings}
use Rattle.window.specs.declared.fields.Window.{Window}

-- there are as many values as fields
pub values-long : (at : ℕ) (widths s : List ℕ) → length (values_at at widths s) ≡ length widths
unfolding values_at
values-long at [] s = refl
values-long at (w ∷ widths) s = ap suc (values-long (at + w) widths s)

-- the values of a part's fields have no more bytes than those
pub part-bounded :
    (widths page values : List ℕ) (at n : ℕ) →
    ((k : ℕ) → get_or page k 0 < 256) →
    values ≡ values_at 0 widths (part at n page) →
    Bounded widths values
part-bounded widths page values at n bytes e k =
    rw e (bounded widths (part at n page) 0 (bytes_take n (drop at page) (bytes_drop at page (are-bytes page bytes))) k)

-- the rules of the layout, one by one
pub page-kept :
    (page head tail : List ℕ) (active static : Window) (x y h t a b c d : Bool) →
    x ≡ block_keeps (part 32 186 page) active →
    y ≡ block_keeps (part 240 186 page) static →
    h ≡ head_fits head →
    t ≡ tail_fits tail →
    a ≡ any_set (part 13 19 page) →
    b ≡ any_set (part 218 22 page) →
    c ≡ any_set (part 426 22 page) →
    d ≡ any_set (part 465 29 page) →
    (((((((x && y) && h) && t) && not a) && not b) && not c) && not d) ≡ page_keeps page head tail active static
unfolding page_keeps
page-kept page head tail active static x y h t a b c d ex ey eh et ea eb ec ed =
    rw (ex, ey, eh, et, ea, eb, ec, ed)

-- what was read of a page, and the answer about its layout
module _ (page head tail : List ℕ) (active static : Window) (kept : Bool)
    (eh : head ≡ head_in page) (et : tail ≡ tail_in page)
    (ea : active ≡ window_in (part 32 186 page)) (es : static ≡ window_in (part 240 186 page))
    (ek : kept ≡ page_keeps page head tail active static) where
  as_fits : kept ≡ page_fits page
  as_fits = ek ∙ rw (eh, et, ea, es)

  pub laid_out : kept ≡ true → layout_refusal page ≡ None
  laid_out k = rw (sym as_fits ∙ k)

  pub not-laid-out : kept ≡ false → layout_refusal page ≡ Some 15
  not-laid-out k = rw (sym as_fits ∙ k)

  pub fields_read :
      (settings : Settings) (debug : DebugLog) →
      settings ≡ settings_from head tail →
      debug ≡ debug_from tail →
      fields_in page ≡
      record {
        settings = settings;
        timer = get_or head 2 0;
        active_window = active;
        static_window = static;
        debug = debug;
      }
  unfolding fields_in
  fields_read settings debug s d = rw (s, d, eh, et, ea, es)

-- the rows before the layout's
pub right_identity :
    (page : List ℕ) →
    length page ≡ 512 →
    identified page ≡ true →
    read_refusal page ≡ layout_refusal page
unfolding read_refusal
right_identity page h e = rw (eq-eqb (length page) 512 h, e)

pub wrong-identity : (page : List ℕ) → length page ≡ 512 → identified page ≡ false → read_refusal page ≡ Some 14
unfolding read_refusal
wrong-identity page h e = rw (eq-eqb (length page) 512 h, e)

pub wrong-length : (page : List ℕ) → (length page ≡ 512 → ⊥) → read_refusal page ≡ Some 13
unfolding read_refusal
wrong-length page h = rw (ne_eqb (length page) 512 h)
