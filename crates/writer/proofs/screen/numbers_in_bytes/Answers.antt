use borrow.Author.Rules.{rules}
use Rattle.writer.specs.Screens.{four_bytes}
use Rattle.writer.proofs.Screening.{mapped_by}
use Rattle.writer.proofs.screen.numbers_in_bytes.Goals as goal

pub returns : goal.returns
returns c = mapped_by four_bytes (λ p x y q h. search rules) (search rules) c.map.ensures.items
