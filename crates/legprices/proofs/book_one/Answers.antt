use mathlib.Core.Path.{ap, sym, ◌∙◌}
use Prim.Native.Nat.{ℕ, ◌+◌, min}
use borrow.Author.Rules.{rules}
use Rattle.quotes.specs.Uses.{most_word}
use Rattle.records.specs.Records.{prices_from}
use Rattle.legprices.proofs.PassLaws.{price_most, held_legs_lem, passed-legs, passed_entry}
use Rattle.legprices.proofs.book_one.Goals as goal

pub returns-then-is_legs : goal.returns-then-is_legs
returns-then-is_legs c =
    let a = c.args in
    let v = c.requires in
    let e = c.prices_taken-count.ensures in
    let ps = c.prices_taken-count.new.prices in
    let u = c.units_at-units.result in (
      held_legs_lem a.words.now a.buy _ c.saturating_add.result v.bits_sized e.0,
      passed-legs a.words.now a.buy a.p a.list.now c.put_prices.new.list a.j u c.saturating_add.result (prices_from c.prices_taken-count.result ps)
          (λ i. search rules) (sym c.is_legs.ensures ∙ c.if-is_legs.true) c.units_at-units.ensures (c.saturating_add.ensures ∙ ap (λ (x : ℕ). min (x + u) most_word) c.unwrap_or.ensures) e.1 c.put_prices.ensures,
    )

pub entry_prices-next-requires : goal.entry_prices-next-requires
entry_prices-next-requires c =
    (c.requires, price_most c.args.list.now c.args.j c.price_at-price.result c.price_at-price.ensures)

pub returns : goal.returns
returns c =
    let a = c.args in
    let f = c.entry_prices-next.ensures in
    (f.held, passed_entry a.words.now a.buy a.p a.list.now c.put_prices-2.new.list a.j c.price_at-price.result c.entry_prices-next.result c.entry_prices-next.new.r (sym c.is_legs.ensures ∙ c.if-is_legs.false) c.price_at-price.ensures f c.put_prices-2.ensures)
