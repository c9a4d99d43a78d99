-- What the report of one component promises. Document 02, Job 4.
use Rattle.std.specs.Prelude.{◌≡◌, true, cond, ℕ, ◌+◌, ◌*◌, leb}
use Rattle.lists.specs.Lists.{sum_of, sum_of_integers}
use Rattle.hypermap.specs.ComponentLaws.{representatives}
use Rattle.table.specs.Layout.{Table, hypermap_of}
use Rattle.parts.specs.Sharing.{is_same}
use Rattle.parts.specs.declared.Part.TheVariants.{Component}
use Rattle.kernel.specs.Calls.{report_of, component_report_of}
use Rattle.kernel.specs.declared.Totals.{Totals}

-- "Its handles are never negative": Euler's formula for one component, which the genus solves
pub record IsOfOneComponent (t : Totals) : Type 0 where
  pub components : t.components ≡ 1
  pub lifts : t.lifts ≡ cond (leb 2 t.darts) 1 0
  pub euler : t.vertices + t.edges + t.faces + 2 * t.genus ≡ 2 + t.darts

-- "and over all pieces they add up to the plan's", as the other numbers do: each component by its smallest dart
abbrev pub sum_of_reports : Table → (Totals → ℕ) → ℕ
sum_of_reports w f = sum_of (λ x. f (component_report_of w x)) (representatives (hypermap_of w))

pub record ReportsAddUp (w : Table) : Type 0 where
  pub darts : sum_of_reports w (λ t. t.darts) ≡ (report_of w).darts
  pub edges : sum_of_reports w (λ t. t.edges) ≡ (report_of w).edges
  pub vertices : sum_of_reports w (λ t. t.vertices) ≡ (report_of w).vertices
  pub faces : sum_of_reports w (λ t. t.faces) ≡ (report_of w).faces
  pub components : sum_of_reports w (λ t. t.components) ≡ (report_of w).components
  pub characteristic :
      sum_of_integers (λ x. (component_report_of w x).characteristic) (representatives (hypermap_of w)) ≡
      (report_of w).characteristic
  pub genus : sum_of_reports w (λ t. t.genus) ≡ (report_of w).genus
  pub lifts : sum_of_reports w (λ t. t.lifts) ≡ (report_of w).lifts

pub record ComponentPromise : Type 0 where
  pub one : (w : Table) (x : ℕ) → (component_report_of w x).number ≡ 0 → IsOfOneComponent (component_report_of w x)
  -- whichever dart of the component is named
  pub shared :
      (w : Table) (x y : ℕ) → (component_report_of w x).number ≡ 0 → is_same w Component x y ≡ true →
      component_report_of w y ≡ component_report_of w x
  pub all : (w : Table) → (report_of w).number ≡ 0 → ReportsAddUp w
