-- Every promise, proved: each field by the term that proves it.
use Rattle.promises.specs.Promises.{Promises}
use Rattle.promises.proofs.FirstDemand.{first_demand}
use Rattle.promises.proofs.SecondDemand.{second_demand}
use Rattle.promises.proofs.ThirdDemand.{third_demand}
use Rattle.promises.proofs.Plans.{plans_promise}
use Rattle.promises.proofs.TapeNeeds.{needs_promise}
use Rattle.promises.proofs.Lifts.{lifts_promise}
use Rattle.promises.proofs.Rounds.{round_promise}
use Rattle.promises.proofs.ComponentReports.{component_promise}
use Rattle.promises.proofs.Journals.{journal_promise}
use Rattle.promises.proofs.Distances.{distance_promise}

pub promises : Promises
promises = record {
  first = first_demand;
  second = second_demand;
  third = third_demand;
  plans = plans_promise;
  needs = needs_promise;
  lifts = lifts_promise;
  rounds = round_promise;
  component_reports = component_promise;
  journals = journal_promise;
  distances = distance_promise;
}
