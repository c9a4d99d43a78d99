use Rattle.std.proofs.Common.{◌≡◌, List, [], ◌∷◌, ◌++◌, ℕ, rules, arith, append_assoc}
use Rattle.std.specs.Fmt.{decimal, signed_decimal}
use Rattle.plan.specs.Lines.{report_line}
use Rattle.plan.proofs.Numerals.{decimal_formatted, signed_formatted}
use Rattle.plan.proofs.text.write_report.Goals as goal

-- the numbers a to h with s between them and t at the end: as the line groups them, and as `writeln!` does
regroup :
    (s t a b c d e f g h : List ℕ) →
    a ++ ((s ++ b) ++ (s ++ c)) ++ ((s ++ d) ++ (s ++ e)) ++ s ++ f ++ ((s ++ g) ++ (s ++ h)) ++ t ≡
    (a ++ (s ++ (b ++ (s ++ (c ++ (s ++ (d ++ (s ++ (e ++ (s ++ (f ++ s))))))))))) ++ (g ++ (s ++ (h ++ t)))
regroup s t a b c d e f g h = simp append_assoc

pub returns : goal.returns
unfolding report_line
returns g c =
    let n = c.args.counts in
    rw (
      decimal_formatted n.darts (omega arith),
      decimal_formatted n.edges (omega arith),
      decimal_formatted n.vertices (omega arith),
      decimal_formatted n.faces (omega arith),
      decimal_formatted n.components (omega arith),
      signed_formatted n.characteristic (search rules),
      decimal_formatted n.genus (omega arith),
      decimal_formatted n.lifts (omega arith),
      regroup (32 ∷ []) (10 ∷ []) (decimal n.darts) (decimal n.edges) (decimal n.vertices) (decimal n.faces)
          (decimal n.components) (signed_decimal _) (decimal n.genus) (decimal n.lifts),
    )
    c.writeln.ensures.bytes
