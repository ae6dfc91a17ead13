-- `datetime64_runs::reading::Reader::check_records` meets its contract: proofs/Checks.antt.
use mathlib.Core.Path.{sym, ◌∙◌}
use Rattle.datetime64_runs.proofs.Checks.{part_record, short_room, each_record}
use Rattle.datetime64_runs.proofs.reading.Reader.check_records.Goals as goal

pub returns-then-bytes-ne0 : goal.returns-then-bytes-ne0
returns-then-bytes-ne0 c = part_record c.args.self.t c.args.bytes.now c.args.room c.if-bytes-ne0.true

pub returns-then-room-bytes : goal.returns-then-room-bytes
returns-then-room-bytes c = short_room c.args.self.t c.args.bytes.now c.args.room c.if-bytes-ne0.false c.if-room-bytes.true

pub returns-then-surely_read : goal.returns-then-surely_read
returns-then-surely_read c = sym (c.surely_read.ensures c.if-surely_read.true) ∙ each_record c.args.self.t c.args.bytes.now c.args.room c.if-bytes-ne0.false c.if-room-bytes.false

pub returns : goal.returns
returns c = c.first_refused_record.ensures ∙ each_record c.args.self.t c.args.bytes.now c.args.room c.if-bytes-ne0.false c.if-room-bytes.false
