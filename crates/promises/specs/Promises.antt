-- All that the customer is promised, in one record: the three demands, document 01's plans to check, and document 02's
-- jobs. Each field is a type of its own file, with the customer's sentence beside each part; proofs/Promises is the one
-- term that proves them all. A later job adds a field.
use Rattle.promises.specs.FirstDemand.{FirstDemand}
use Rattle.promises.specs.SecondDemand.{SecondDemand}
use Rattle.promises.specs.ThirdDemand.{ThirdDemand}
use Rattle.promises.specs.Plans.{PlansPromise}
use Rattle.promises.specs.TapeNeeds.{NeedsPromise}
use Rattle.promises.specs.Lifts.{LiftsPromise}
use Rattle.promises.specs.Rounds.{RoundPromise}
use Rattle.promises.specs.ComponentReports.{ComponentPromise}
use Rattle.promises.specs.Journals.{JournalPromise}
use Rattle.promises.specs.Distances.{DistancePromise}

pub record Promises : Type 0 where
  -- every call replies; a refused one leaves what it was lent as it was
  pub first : FirstDemand
  -- every answer is what the definition of a hypermap says; tapes build their plans
  pub second : SecondDemand
  -- the genus, the joins that add to it, and what a ring cut parts
  pub third : ThirdDemand
  -- the plans that document 01 marks M
  pub plans : PlansPromise
  -- Job 1: what a tape needs, known before it is played
  pub needs : NeedsPromise
  -- Job 2: lifts are the components of at least two darts
  pub lifts : LiftsPromise
  -- Job 3: no round passes the capacity
  pub rounds : RoundPromise
  -- Job 4: the report of one component
  pub component_reports : ComponentPromise
  -- Job 5: named states to come back to
  pub journals : JournalPromise
  -- Job 6: how far round an edge or a vertex
  pub distances : DistancePromise
