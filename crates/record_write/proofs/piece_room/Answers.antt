-- `record_write::piece_room`: two characters for each byte, and those beside them, by the format.
use Rattle.std.proofs.Common.{sym, ◌∙◌}
use Rattle.record_write.proofs.LineLaws.{room-short, room-long, room-same, room-other}
use Rattle.record_write.proofs.piece_room.Goals as goal

pub returns-then-format-eq2-clause-piece_room : goal.returns-then-format-eq2-clause-piece_room
returns-then-format-eq2-clause-piece_room c =
    let a = c.args in λ l e. room-short a.format a.state a.address a.n l e c.requires c.if-format-eq2.true

pub returns-then-format-ne0-clause-piece_room : goal.returns-then-format-ne0-clause-piece_room
returns-then-format-ne0-clause-piece_room c =
    let a = c.args in λ l e. room-long a.format a.state a.address a.n l e c.requires c.if-format-eq2.false c.if-format-ne0.true

pub returns-then-address-from-clause-piece_room : goal.returns-then-address-from-clause-piece_room
returns-then-address-from-clause-piece_room c =
    let a = c.args in λ l e. room-same a.format a.state a.address a.n l e c.requires c.if-format-ne0.false (c.if-address-from.true ∙ c.from.ensures)

pub returns-clause-piece_room : goal.returns-clause-piece_room
returns-clause-piece_room c =
    let a = c.args in λ l e. room-other a.format a.state a.address a.n l e c.requires c.if-format-ne0.false (λ q. c.if-address-from.false (q ∙ sym c.from.ensures))
