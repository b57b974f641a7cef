use Rattle.shell.proofs.importing.import_open.Goals as goal

pub returns : goal.returns
returns g c = λ start so_far.
    c.in_ok-import-2.ensures start (c.in_ok-rows.ensures start (c.in_ok-import.ensures start (c.in_ok-schedule.ensures start so_far)))
