use Rattle.std.proofs.Common.{rules}
use Rattle.std.proofs.lemmas.List.{take_all}
use Rattle.tapelist.proofs.keep.Goals as goal

-- the whole chunk finds room
pub returns : goal.returns
returns c = search (rules, take_all c.saturating_sub-room.result c.args.chunk.now c.if-room-chunk.false)
