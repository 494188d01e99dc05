use Rattle.intake.proofs.take_in.Goals as goal

pub returns-in-Local : goal.returns-in-Local
returns-in-Local c =
    rw c.in-Local.is c.local_in.ensures

pub returns-in-National : goal.returns-in-National
returns-in-National c =
    rw c.in-National.is c.national_in.ensures

pub returns-in-Order : goal.returns-in-Order
returns-in-Order c =
    rw c.in-Order.is c.order_in.ensures

pub returns-in-Response : goal.returns-in-Response
returns-in-Response c =
    rw c.in-Response.is c.response_in.ensures

pub returns-in-Modify : goal.returns-in-Modify
returns-in-Modify c =
    rw c.in-Modify.is c.modify_in.ensures

pub returns-in-Cancel : goal.returns-in-Cancel
returns-in-Cancel c =
    rw c.in-Cancel.is c.cancel_in.ensures

pub returns-in-Clock : goal.returns-in-Clock
returns-in-Clock c =
    rw c.in-Clock.is c.clock_in.ensures

pub returns-in-Reduce : goal.returns-in-Reduce
returns-in-Reduce c =
    rw c.in-Reduce.is c.reduce_in.ensures
