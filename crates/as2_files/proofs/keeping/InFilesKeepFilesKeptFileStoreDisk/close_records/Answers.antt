use Rattle.as2_files.proofs.keeping.InFilesKeepFilesKeptFileStoreDisk.close_records.Goals as goal

pub returns-clause-kept : goal.returns-clause-kept
returns-clause-kept g c = λ clean s rests. c.close_into_files.ensures.kept clean s rests
