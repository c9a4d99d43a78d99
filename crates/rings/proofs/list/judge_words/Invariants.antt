use Rattle.std.proofs.Common.{◌≡◌, drop}
use Rattle.lists.specs.Lists.{all}
use Rattle.table.specs.Layout.{is_number, is_present}
use Rattle.rings.proofs.list.judge_words.Given as goal

abbrev pub invariant-loop-x : goal.invariant-loop-x
invariant-loop-x l = all (is_number l.table) l.ring ≡ all (is_number l.table) (drop l.x-index l.ring)

abbrev pub invariant-loop-x-2 : goal.invariant-loop-x-2
invariant-loop-x-2 l = all (is_present l.table) l.ring ≡ all (is_present l.table) (drop l.x-index l.ring)
