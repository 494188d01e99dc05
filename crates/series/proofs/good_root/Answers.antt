-- Where the capitals end, all that is left must be spaces.
use mathlib.Core.Path.{◌≡◌, sym, ap, ◌∙◌}
use mathlib.Core.Bool.{Bool, not, ◌&&◌}
use native.Mathlib.Omega.{arith}
use Prim.Native.Nat.{ℕ, ◌≤◌}
use lib.ListN.{length, get_or, drop}
use Rattle.std.proofs.Common.{rules}
use Rattle.std.proofs.lemmas.List.Sums.{prefix_len-le-length}
use Rattle.rules.specs.Basics.{between, all}
use Rattle.rules.specs.Series.{root_of, is_capital, is_space}
use Rattle.series.specs.Parts.{part}
use Rattle.series.proofs.PartLaws.{all-list, part_root}
use Rattle.series.proofs.SymbolLaws.{space_between, padded_is}
use Rattle.series.proofs.good_root.Goals as goal

pub returns : goal.returns
returns c =
    let s = c.args.symbol.now in
    let k = c.capitals-end.result in
    let l : length (root_of s) ≡ 6 = search rules in
    let e = c.capitals-end.ensures in
    let h : k ≤ 6 = omega (arith, l, e, prefix_len-le-length (λ b. not (not (is_capital b))) (root_of s)) in
    let first : c.is_ascii_uppercase.result ≡ is_capital (get_or s 0 0) = search rules in
    rw (first, c.all_within.ensures)
    (ap (λ (t : Bool). is_capital (get_or s 0 0) && t)
    (sym (all-list (λ b. between 32 b 32) (part s k 6)) ∙ sym (space_between (part s k 6)) ∙ ap (all is_space) (part_root s k h ∙ ap (λ (n : ℕ). drop n (root_of s)) e) ∙ sym (padded_is (root_of s))))
