use Rattle.as2_mdn.proofs.ReportReading.{given_by, unreadable_by}
use Rattle.as2_mdn.proofs.report_reader.mic_part.Goals as goal

pub returns-in-Some : goal.returns-in-Some
returns-in-Some c = given_by c.args.mic c.in-One.value c.in-Some.field c.in-One.is c.in-Some.ensures.found

pub returns-in-None : goal.returns-in-None
returns-in-None c = unreadable_by c.args.mic c.in-One.value c.in-One.is c.in-None.ensures.none
