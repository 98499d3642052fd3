-- The lengths of the page's parts.
use mathlib.Core.Path.{◌≡◌, refl}
use Prim.Native.Nat.{ℕ}
use lib.ListN.{length, length-append}
use Rattle.endian.specs.Stores.{fields, total}
use Rattle.endian.proofs.Runs.{length_fields}
use Rattle.logpage.specs.Page.{head_widths, head_values, head_bytes, windows_bytes, tail_widths, tail_values, tail_bytes}
use Rattle.logpage.specs.Page.{identity_widths, identity_values, page_bytes}
use Rattle.logpage.specs.declared.fields.DebugLog.{DebugLog}
use Rattle.logpage.specs.declared.fields.Settings.{Settings}
use Rattle.window.specs.declared.fields.Window.{Window}
use Rattle.logpage.specs.declared.page.LogPage.{LogPage}
use Rattle.window.proofs.Lengths.{length-block}

pub length-head-fields : (s : Settings) (timer : ℕ) → length (fields head_widths (head_values s timer)) ≡ 13
unfolding total
length-head-fields s timer = length_fields head_widths (head_values s timer) refl

pub length-head : (s : Settings) (timer : ℕ) → length (head_bytes s timer) ≡ 32
unfolding head_bytes
length-head s timer = simp (length-append, length-head-fields)

pub length-windows : (active static : Window) → length (windows_bytes active static) ≡ 416
unfolding windows_bytes
length-windows active static = simp (length-append, length-block)

pub length-tail-fields : (trigger : ℕ) (d : DebugLog) → length (fields tail_widths (tail_values trigger d)) ≡ 17
unfolding total
length-tail-fields trigger d = length_fields tail_widths (tail_values trigger d) refl

pub length-identity : length (fields identity_widths identity_values) ≡ 18
unfolding total
length-identity = length_fields identity_widths identity_values refl

pub length-tail : (trigger : ℕ) (d : DebugLog) → length (tail_bytes trigger d) ≡ 64
unfolding tail_bytes
length-tail trigger d = simp (length-append, length-tail-fields, length-identity)

pub length-page : (p : LogPage) → length (page_bytes p) ≡ 512
unfolding page_bytes
length-page p = simp (length-append, length-head, length-windows, length-tail)
