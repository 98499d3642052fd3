-- The example of the page program is computed.
use Rattle.std.proofs.Common.{refl}
use Rattle.endian.specs.Bytes.{any_set}
use Rattle.endian.specs.Loads.{number}
use Rattle.endian.specs.Stores.{low_first, fields}
use Rattle.window.specs.Block.{bits, flags, buckets, downward, block_bytes}
use Rattle.window.specs.Fields.{empty_window}
use Rattle.logpage.specs.Fields.{no_debug_log}
use Rattle.logpage.specs.Page.{head_bytes, windows_bytes, tail_bytes, page_bytes}
use Rattle.text.specs.Pages.{hex_digit, hex_offset, hex_bytes, line, shown_line, line_at, lines, text_of}
use Rattle.rules.specs.Commands.{kind_of, highest, bucket_of, counter_of, milliseconds_of}
use Rattle.rules.specs.Counting.{loads, counted_in, triggers}
use Rattle.rules.specs.Refusals.{field_refusal, settings_refusal, elapsed_refusal}
use Rattle.rules.specs.Settings.{decoded}
use Rattle.rules.specs.Timer.{ticked}
use Rattle.monitor.specs.Calls.{play_from}
use Rattle.monitor.specs.Record.{new_monitor, after_settings, after_elapsed, after_completion}
use Rattle.monitor.specs.Report.{page_of}
use Rattle.records.specs.Records.{settings_bytes, command_of, completion_of, elapsed_of, call_of_kind, call_of, record_refusal}
use Rattle.events.specs.Files.{calls_before, history_of, end_refusal}
use Rattle.events.specs.Blocks.{record_line, lines_from, refused_lines, end_line, printed}
use Rattle.events.specs.Example.{example_input, example_text, line_of, ExamplePrinted}

pub example-printed : ExamplePrinted
unfolding example_input example_text line_of printed refused_lines lines_from record_line end_line end_refusal history_of calls_before play_from call_of call_of_kind settings_bytes completion_of command_of elapsed_of record_refusal new_monitor after_settings after_elapsed after_completion page_of page_bytes head_bytes windows_bytes tail_bytes block_bytes bits flags buckets downward empty_window no_debug_log any_set number low_first fields kind_of highest bucket_of counter_of milliseconds_of loads counted_in triggers field_refusal settings_refusal elapsed_refusal decoded ticked hex_digit hex_offset hex_bytes line shown_line line_at lines text_of
example-printed = refl
