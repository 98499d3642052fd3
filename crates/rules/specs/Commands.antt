-- A completion: the counter that it counts for, whether it is below threshold A, and its latency in ms.
use Rattle.std.specs.Prelude.{ℕ, zero, suc, ◌+◌, ◌*◌, ◌/◌, min, Bool, true, false, cond, not, ◌&&◌, ◌||◌, List, eqb, leb, get_or}
use Rattle.std.specs.Prelude.{Option, None, Some}
use Rattle.logpage.specs.declared.fields.Settings.{Settings}
use Rattle.rules.specs.declared.commands.Command.{Command}
use Rattle.rules.specs.declared.kinds.Kind.{Kind}
use Rattle.rules.specs.Kinds.{number_of}

-- the kind by its number; other commands have none
abbrev pub says_kind : Option Kind → Option ℕ
says_kind (Some kind) = Some (number_of kind)
says_kind None = None

-- 02, Ticket 4: Dataset Management, 9, and Write Zeroes, 8, are Deallocate with the deallocate attribute or bit
abbrev pub kind_by_attribute : ℕ → Bool → Option ℕ
kind_by_attribute opcode attribute = cond ((eqb opcode 9 || eqb opcode 8) && attribute) (Some 2) None

-- 01, A completion, with 02, Ticket 4: the kind of a command; a Read or Write is not asked for the attribute
abbrev pub kind_for : ℕ → Bool → Option ℕ
kind_for opcode attribute =
    cond (eqb opcode 2) (Some 0) (cond (eqb opcode 1) (Some 1) (kind_by_attribute opcode attribute))

unfoldable pub kind_of : Command → Option ℕ
kind_of c = kind_for c.opcode c.deallocate

-- 01, A completion: whether a command is of a kind that counts at all
abbrev is_there : Option ℕ → Bool
is_there (Some k) = true
is_there None = false

abbrev pub has_kind : Command → Bool
has_kind c = is_there (kind_of c)

-- 01, Settings: threshold byte 0 is 5 ms, and each further one 5 ms more. 01, A completion: an equal latency reaches it
abbrev pub reaches : ℕ → ℕ → Bool
reaches us v = leb (5000 * (v + 1)) us

-- the highest number below n that a test holds of
unfoldable pub highest : (ℕ → Bool) → ℕ → Option ℕ
highest test zero = None
highest test (suc b) = cond (test b) (Some b) (highest test b)

-- the highest bucket below n whose threshold is reached: by which are, and by thresholds and latency
abbrev pub highest_reached : List Bool → ℕ → Option ℕ
highest_reached reached n = highest (λ (b : ℕ). get_or reached b false) n

abbrev pub highest_below : List ℕ → ℕ → ℕ → Option ℕ
highest_below thresholds us n = highest (λ (b : ℕ). reaches us (get_or thresholds b 0)) n

-- 01, A completion: the one bucket of a latency, tried from D, bucket 3, down to A, bucket 0
unfoldable pub bucket_of : List ℕ → Command → Option ℕ
bucket_of thresholds c = highest_below thresholds c.latency 4

-- 01, The monitor's record: the counter of a bucket and a kind, by number (document 01: pair, pair number)
abbrev pub counter_at : Option ℕ → Option ℕ → Option ℕ
counter_at (Some b) (Some k) = Some (3 * b + k)
counter_at (Some b) None = None
counter_at None k = None

-- the counter as a number: twelve is that of none
abbrev pub counter_number : Option ℕ → ℕ
counter_number (Some n) = n
counter_number None = 12

-- 01, A completion: whether a latency is long enough to count at all
abbrev pub reaches_a : List ℕ → Command → Bool
reaches_a thresholds c = reaches c.latency (get_or thresholds 0 0)

-- 01, A completion: the counter that a completion counts for; none while the monitor is disabled
unfoldable pub counter_of : Settings → Command → Option ℕ
counter_of s c =
    cond s.enabled
    (cond (reaches_a s.thresholds c) (counter_at (bucket_of s.thresholds c) (kind_of c)) None)
    None

-- 02, Ticket 2: whether a completion is below threshold A and enabled; and the kind of one that is
unfoldable pub is_below_a : Settings → Command → Bool
is_below_a s c = not (reaches_a s.thresholds c) && s.enabled

unfoldable pub below_a_of : Settings → Command → Option ℕ
below_a_of s c = cond (is_below_a s c) (kind_of c) None

-- 01, A completion: the whole ms of a latency, as many as two bytes hold
unfoldable pub milliseconds_of : Command → ℕ
milliseconds_of c = min (c.latency / 1000) 65535

-- the lowest latency, in µs, of more ms than these, for a loop over many completions: below it there are no more
unfoldable pub latency_above : (ms : ℕ) → ℕ
latency_above ms = 1000 * (ms + 1)
