-- The second demand: what the public calls accept, change and answer is what the definition of a hypermap says.
use Rattle.hypermap.proofs.Theory.{theory}
use Rattle.table.proofs.OnlyTables.{table_law}
use Rattle.table.proofs.Holding.{hypermap_law}
use Rattle.soundness.proofs.Passing.{table_passed, table_fits, holds_sound}
use Rattle.promises.specs.SecondDemand.{SecondDemand}
use Rattle.promises.proofs.Changes.{put_accepted, put_adds, take_out_accepted, take_out_removes, join_accepted}
use Rattle.promises.proofs.Changes.{join_changes, cut_accepted, cut_changes, ring_accepted, ring_breaks, command_stays}
use Rattle.promises.proofs.Changes.{ring_stays, run_stays}
use Rattle.promises.proofs.Questions.{same, round, marks, report, component_report}
use Rattle.promises.proofs.Tapes.{built, short, only_tape, screen}

pub second_demand : SecondDemand
second_demand = record {
  sound = λ w. (
    λ e. let t = table_passed w e in let h = (hypermap_law w).0 t.hypermap in (t.size, h.0, h.1),
    λ p. table_fits w p.0 (holds_sound w ((hypermap_law w).1 (p.1, p.2))),
  );
  table = table_law;
  theory = theory;
  put_accepted = put_accepted;
  put_adds = put_adds;
  take_out_accepted = take_out_accepted;
  take_out_removes = take_out_removes;
  join_accepted = join_accepted;
  join_changes = join_changes;
  cut_accepted = cut_accepted;
  cut_changes = cut_changes;
  ring_accepted = ring_accepted;
  ring_breaks = ring_breaks;
  command_stays = λ w c e. command_stays w e c;
  ring_stays = λ w ring e. ring_stays w e ring;
  run_stays = λ w tape e. run_stays w e tape;
  same = same;
  round = round;
  marks = marks;
  report = report;
  component_report = component_report;
  built = built;
  short = short;
  only_tape = only_tape;
  screen = screen;
}
