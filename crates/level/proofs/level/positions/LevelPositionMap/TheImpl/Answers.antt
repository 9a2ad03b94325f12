use Rattle.level.proofs.level.positions.LevelPositionMap.TheImpl.Goals as goal

-- the clauses of the trait are among the level's own
pub swap-tells : goal.swap-tells
swap-tells g d c =
    let e = c.ensures in
    record { card = e.card; frame = e.frame; order = e.order; refused = e.refused; done = e.done; does = e.does }

pub drain-tells : goal.drain-tells
drain-tells g d c =
    let e = c.ensures in
    record { card = e.card; frame = e.frame; order = e.order; refused = e.refused; done = e.done; does = e.does }
