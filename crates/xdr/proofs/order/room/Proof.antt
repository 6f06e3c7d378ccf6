use borrow.Author.Rules.{rules}
use Rattle.xdr.specs.Laws.Room.{room-past, room-short, room_fits}
use Rattle.xdr.proofs.order.room.Statement.{statement}
use Rattle.xdr.proofs.order.room.Tie as tie

pub room_spec : {M : Type 1} → statement M
room_spec =
    tie.close (tie.spec (λ c. search room-past) (λ c. search room-short) (search rules) (λ c. search room_fits))
