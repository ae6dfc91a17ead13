-- A conversion reads the numbers of a row, or writes them, in one way: what a ghost field asks of its fact.
use Rattle.std.proofs.Props.{props}
use Rattle.datetime64_type.specs.declared.UnitRow.{UnitRow}
use Rattle.datetime64_number.specs.declared.Conversion.{Conversion}
use Rattle.datetime64_number.specs.Conversions.{Reads, Writes}

pub reads_once : (row : UnitRow) (c : Conversion) → IsProp (Reads row c)
reads_once row (Conversion.Calendar part start) = Prim.hlevel props
reads_once (UnitRow.Steps part) (Conversion.Fixed r) = Prim.hlevel props
reads_once (UnitRow.Multiple k) (Conversion.Fixed r) = Prim.hlevel props
reads_once (UnitRow.Fraction k) (Conversion.Fixed r) = Prim.hlevel props

pub writes_once : (row : UnitRow) (c : Conversion) → IsProp (Writes row c)
writes_once row (Conversion.Calendar part start) = Prim.hlevel props
writes_once (UnitRow.Steps part) (Conversion.Fixed r) = Prim.hlevel props
writes_once (UnitRow.Multiple k) (Conversion.Fixed r) = Prim.hlevel props
writes_once (UnitRow.Fraction k) (Conversion.Fixed r) = Prim.hlevel props
