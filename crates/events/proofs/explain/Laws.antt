-- Laws of what is said of a record.
use Rattle.std.proofs.Common.{◌≡◌, ℕ, ◌-◌, ◌<◌, ◌≤◌, List, arith, le-ltb, lt-ltb}
use Rattle.std.specs.Prelude.{None, Some}
use Rattle.monitor.specs.declared.record.Monitor.{Monitor}
use Rattle.monitor.specs.Calls.{play_from}
use Rattle.monitor.specs.Record.{new_monitor}
use Rattle.events.specs.declared.explain.Question.{Question}
use Rattle.events.specs.Explain.{not_a_completion, record_said, bytes_before, said_at}
use Rattle.events.specs.Explain.{record_number, number_said, question_of, after_part, part_said}
use Rattle.events.specs.Files.{record_at, whole_records, history_of}

-- a number with too few bytes, and a whole one
pub number_short : (n : ℕ) → n < 4 → Some not_a_completion ≡ number_said n
unfolding number_said
number_short n h = rw (lt-ltb n 4 h)

pub number-whole : (n : ℕ) → 4 ≤ n → None ≡ number_said n
unfolding number_said
number-whole n h = rw (le-ltb n 4 h)

-- the question that a number asks
pub asks :
    (bytes : List ℕ) (m : Monitor) (n : ℕ) →
    m ≡ new_monitor →
    n ≡ record_number bytes →
    ◌≡◌ {A = Question} (record { monitor = m; before = n }) (question_of bytes)
unfolding question_of
asks bytes m n is-new is_number = rw (is-new, is_number)

-- a part that has the record, and one that has not
module _
    (q : Question) (s : List ℕ) (m : Monitor)
    (played : m ≡ play_from q.monitor (history_of (bytes_before s q.before))) where
  pub part-reached :
      q.before < whole_records s →
      (◌≡◌ {A = Question} (record { monitor = m; before = 0 }) (after_part q s)) ×
      (Some (record_said m (record_at s q.before)) ≡ part_said q s)
  unfolding after_part said_at
  part-reached h =
      let none_left : q.before - whole_records s ≡ 0 = omega arith in
      (rw (none_left, played), rw (lt-ltb q.before (whole_records s) h, played))

  pub part-passed :
      whole_records s ≤ q.before →
      (◌≡◌ {A = Question} (record { monitor = m; before = q.before - whole_records s }) (after_part q s)) ×
      (None ≡ part_said q s)
  unfolding after_part said_at
  part-passed h = (rw played, rw (le-ltb q.before (whole_records s) h))
