-- What the calls about datetime64 arrays answer and leave: the definitions of crate `datetime64_runs`, by the identifier's bytes.
use Rattle.std.specs.Prelude.{List, ℕ, ℤ}
use Rattle.runs.specs.declared.RunAnswer.{RunAnswer}
use Rattle.datetime64_runs.specs.Runs.{type_named, read_answer, read_destination, write_answer, write_room}

abbrev pub uppinalo_read_datetime64 : List ℕ → List ℕ → List ℤ → RunAnswer
uppinalo_read_datetime64 identifier records destination = read_answer (type_named identifier) records destination

abbrev pub uppinalo_read_datetime64_destination : List ℕ → List ℕ → List ℤ → List ℤ
uppinalo_read_datetime64_destination identifier records destination = read_destination (type_named identifier) records destination

abbrev pub uppinalo_write_datetime64 : List ℕ → List ℤ → List ℕ → RunAnswer
uppinalo_write_datetime64 identifier instants records = write_answer (type_named identifier) instants records

abbrev pub uppinalo_write_datetime64_records : List ℕ → List ℤ → List ℕ → List ℕ
uppinalo_write_datetime64_records identifier instants records = write_room (type_named identifier) instants records
