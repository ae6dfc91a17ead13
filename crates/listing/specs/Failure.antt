-- Which side of the listing failed.
use Rattle.listing.specs.declared.failure.Failure.{Failure}
use Rattle.listing.specs.declared.failure.Failure.TheVariants.{Input, Output}

-- a write failed
abbrev pub IsOfOutput : Failure → Type 0
IsOfOutput (Input e) = ⊥
IsOfOutput (Output e) = Unit {0}
