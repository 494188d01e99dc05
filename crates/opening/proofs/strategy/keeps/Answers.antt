use Rattle.opening.proofs.strategy.keeps.Goals as goal

pub returns : goal.returns
returns c =
    (c.judge-j.ensures.0, c.judge-j.ensures.1, c.good_ratio.ensures, rw (c.good_side.ensures, c.good_mpv.ensures))
