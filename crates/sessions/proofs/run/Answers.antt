use native.Mathlib.Omega.{arith}
use Rattle.sessions.proofs.PathLaws.{path_text, is_taken}
use Rattle.sessions.proofs.run.Goals as goal

pub unwrap-name-requires : goal.unwrap-name-requires
unwrap-name-requires c =
    let n = c.requires in
    is_taken _ _ _ c.from_utf8.ensures.cases (λ e q. q.0 (path_text _ _ _ (omega (arith, n)) (omega (arith, n)) (omega (arith, n))))
