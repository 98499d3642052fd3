-- What the calls of a history did, the newest first, and how a fact is asked of it.
use Rattle.std.specs.Prelude.{Bool, true, false, List, [], ◌∷◌, map, ℕ}
use Rattle.std.specs.Prelude.{Option, None, Some}
use Rattle.endian.specs.Bytes.{Bytes}
use Rattle.rules.specs.declared.commands.Command.{Command}
use Rattle.monitor.specs.Calls.{Call, settings, completion, elapsed, clock, power_up, page, settings_back, below_a}
use Rattle.monitor.specs.Calls.{History, refusal_of, found, or_else, and_then, All}

-- what a call does to the record
pub data Effect : Type 0 where
  configured : List ℕ → Effect
  completed : Command → Effect
  passed : ℕ → Effect
  clock_set : ℕ → Effect
  powered_up : Effect
  nothing : Effect

abbrev pub if_accepted : Option ℕ → Effect → Effect
if_accepted (Some n) e = nothing
if_accepted None e = e

abbrev pub asked : Call → Effect
asked (settings s) = configured s
asked (completion c) = completed c
asked (elapsed ms) = passed ms
asked (clock value) = clock_set value
asked power_up = powered_up
asked (page n) = nothing
asked (settings_back n) = nothing
asked (below_a w) = nothing

-- 01, The facts of a history: what a call does, which is nothing unless it is accepted
abbrev pub effect_of : Call → Effect
effect_of c = if_accepted (refusal_of c) (asked c)

-- what was done before a place, the newest first
abbrev pub Past : Type 0
Past = List Effect

abbrev pub past_of : History → Past
past_of h = map effect_of h

-- the clock is set to a value, by the host or by power-up
pub record ClockSetting : Type 0 where
  pub value : ℕ
  pub set_by_host : Bool

-- what each effect brings
abbrev pub settings_in : Effect → Option (List ℕ)
settings_in (configured s) = Some s
settings_in (completed c) = None
settings_in (passed ms) = None
settings_in (clock_set value) = None
settings_in powered_up = None
settings_in nothing = None

abbrev pub completion_in : Effect → Option Command
completion_in (configured s) = None
completion_in (completed c) = Some c
completion_in (passed ms) = None
completion_in (clock_set value) = None
completion_in powered_up = None
completion_in nothing = None

abbrev pub elapsed_in : Effect → Option ℕ
elapsed_in (configured s) = None
elapsed_in (completed c) = None
elapsed_in (passed ms) = Some ms
elapsed_in (clock_set value) = None
elapsed_in powered_up = None
elapsed_in nothing = None

abbrev pub clock_in : Effect → Option ClockSetting
clock_in (configured s) = None
clock_in (completed c) = None
clock_in (passed ms) = None
clock_in (clock_set value) = Some (record { value = value; set_by_host = true })
clock_in powered_up = Some (record { value = 0; set_by_host = false })
clock_in nothing = None

-- what f finds at the latest place where it finds anything
unfoldable pub latest : {A : Type 0} → (Effect → Option A) → Past → Option A
latest f [] = None
latest f (e ∷ past) = or_else (f e) (latest f past)

-- what f finds at each place since the latest where `start` finds anything, the newest first
abbrev pub unless_found : {A B : Type 0} → Option B → List A → List A
unless_found None xs = xs
unless_found (Some x) xs = []

unfoldable pub since : {A B : Type 0} → (Effect → Option B) → (Effect → Past → Option A) → Past → List A
since start f [] = []
since start f (e ∷ past) = unless_found (start e) (and_then (f e past) (since start f past))

-- the settings of a history are bytes
abbrev pub OfBytes : History → Type 0
OfBytes h = All (λ c. Bytes (found [] (λ s. s) (settings_in (asked c)))) h
