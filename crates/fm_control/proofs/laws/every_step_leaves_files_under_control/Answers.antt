use Rattle.fm_control.proofs.Behind.{theirs-begin}
use Rattle.fm_control.proofs.Running.{run-controlled}
use Rattle.fm_control.proofs.laws.every_step_leaves_files_under_control.Goals as goal
use Rattle.meaning_history.specs.Reached.{first_of}
use Rattle.meaning_system.specs.Machine.{start}

pub returns : goal.returns
returns c given f x xs past follows may =
    run-controlled c.each_step_leads_on.ensures.kept c.restores_go_on_with_the_history.ensures (first_of x) xs f (start given x) (c.each_step_leads_on.ensures.begin given f x past follows) (theirs-begin given x) may
