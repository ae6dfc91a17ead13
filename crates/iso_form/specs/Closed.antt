-- CLOSED FORM: where the text starts in 28 bytes of which the first is a minus, which a private function computes.
use Rattle.std.specs.Prelude.{ℕ, Bool, true, false}

abbrev pub lead : Bool → ℕ
lead true = 0
lead false = 1
