use Rattle.index_maint.proofs.Places.{indexes_apart, places_apart}
use Rattle.index_maint.proofs.laws.places_are_apart.Goals as goal

pub returns : goal.returns
returns c = record { places = places_apart; indexes = indexes_apart }
