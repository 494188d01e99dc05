use Rattle.average.proofs.PartLaws.{first_fits, high_fits, low_fits, both, both-fit}
use mathlib.Core.Path.{◌∙◌}
use native.Mathlib.Omega.{arith}
use Prim.Native.Nat.{◌<◌}
use borrow.Author.Rules.{rules}
use Rattle.average.proofs.paid.Goals as goal

pub times-most-requires : goal.times-most-requires
times-most-requires c =
    let a = c.args in
    let d = c.requires.0 in
    let q = c.requires.1 in
    let l : a.price < 18_446_744_073_709_551_616 = search rules in
    let one = c.parts_of-one.ensures in
    (d, one.below, omega arith, first_fits a.units a.price a.given d.0 l q _ one.is)

pub times-high-requires : goal.times-high-requires
times-high-requires c =
    let a = c.args in
    let d = c.requires.0 in
    let q = c.requires.1 in
    let l : a.price < 18_446_744_073_709_551_616 = search rules in
    let one = c.parts_of-one.ensures in
    let most = c.times-most.ensures in
    (d, most.below, omega arith, high_fits a.units a.price a.given d.0 l q _ _ one.is most.is)

pub times-low-requires : goal.times-low-requires
times-low-requires c =
    let a = c.args in
    let d = c.requires.0 in
    let q = c.requires.1 in
    let l : a.price < 18_446_744_073_709_551_616 = search rules in
    let one = c.parts_of-one.ensures in
    (d, one.below, omega arith, low_fits a.units a.price a.given d.0 l q _ one.is)

pub plus-requires : goal.plus-requires
plus-requires c =
    let a = c.args in
    let d = c.requires.0 in
    let q = c.requires.1 in
    let l : a.price < 18_446_744_073_709_551_616 = search rules in
    let one = c.parts_of-one.ensures in
    let most = c.times-most.ensures in
    let high = c.times-high.ensures in
    let low = c.times-low.ensures in
    (d, high.below, low.below, both-fit a.units a.price a.given d.0 l q _ (both a.units a.price a.given d.0 l q _ _ _ _ one.is most.is high.is low.is))

pub returns : goal.returns
returns c =
    let a = c.args in
    let d = c.requires.0 in
    let q = c.requires.1 in
    let l : a.price < 18_446_744_073_709_551_616 = search rules in
    let one = c.parts_of-one.ensures in
    let most = c.times-most.ensures in
    let high = c.times-high.ensures in
    let low = c.times-low.ensures in
    record { is = c.plus.ensures.is ∙ both a.units a.price a.given d.0 l q _ _ _ _ one.is most.is high.is low.is; below = c.plus.ensures.below }
