-- `page`: what the writer says of the page's fields.
use Rattle.monitor.proofs.report.Laws.{page-says}
use Rattle.monitor.proofs.record.Monitor.page.Goals as goal

pub returns : goal.returns
returns c =
    let met = page-says c.args.self c.args.page.now _ c.write.result c.write.ensures.bytes c.write.ensures.written in
    record { bytes = met.0; answer = met.1 }
