-- 02, Ticket 1: a page that is read into fields which C lends: what they are after it, and the answer.
use Rattle.std.specs.Prelude.{List, ℕ}
use Rattle.logpage.specs.Reader.{shown, fields_in, read_refusal}
use Rattle.logpage.specs.declared.reader.Reading.{Reading}
use Rattle.rules.specs.Answers.{CallAnswer, done, unless_refused}
use Rattle.monitor.specs.Record.{untouched_if}

-- the old fields if the page is turned away, else what it shows
unfoldable pub read_into : Reading → List ℕ → Reading
read_into old page = untouched_if (read_refusal page) old (shown (fields_in page))

unfoldable pub read_answer : List ℕ → CallAnswer
read_answer page = unless_refused (read_refusal page) done
