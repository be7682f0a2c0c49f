use Rattle.version_store.proofs.Asides.{store_few}
use Rattle.version_store.proofs.Recounted.{pointers_few}
use Rattle.version_store.proofs.laws.places_have_few_names.Goals as goal

pub returns-clause-places : goal.returns-clause-places
returns-clause-places c = λ s p store. store_few s store p

pub returns-clause-rows : goal.returns-clause-rows
returns-clause-rows c = λ held o row latest object few. pointers_few held o row latest object few
