use Rattle.std.proofs.Common.{arith}
use Rattle.table.specs.Limits.{max_capacity}
use Rattle.writer.proofs.EmptyTable.{empty_playable, screen_ready}
use Rattle.writer.proofs.screen.play_and_answer.Goals as goal

pub play_table-requires : goal.play_table-requires
play_table-requires c = empty_playable max_capacity _ (omega arith) c.requires.short

pub write_answer-requires : goal.write_answer-requires
write_answer-requires c =
    screen_ready max_capacity c.args.tape.now _ _ (omega arith) c.requires.room c.play_table.ensures.table
