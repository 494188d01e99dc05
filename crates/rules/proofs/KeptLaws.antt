-- What is kept of the legs, message by message.
use mathlib.Core.Path.{◌≡◌, refl, ap, sym, ◌∙◌, subst}
use mathlib.Core.Bool.{Bool, true, false, ◌&&◌, not, true≢false}
use mathlib.Core.List.{List, [], ◌∷◌, ◌++◌}
use mathlib.Core.Logic.{inl, inr}
use Prim.Native.Nat.{ℕ, zero, suc, ◌+◌, ◌-◌, ◌*◌, ◌≤◌, min}
use native.Mathlib.Decide.{ℕ_discrete, dec_lt}
use native.Mathlib.Omega.{arith}
use borrow.Author.Tests.{eq-eqb, ne_eqb, lt-ltb, le-ltb}
use lib.Dec.{eqb}
use lib.ListN.{length}
use Rattle.rules.specs.Basics.{pick}
use Rattle.rules.specs.Strategy.{Leg, is_b}
use Rattle.rules.specs.Prices.{most_cents, Quote, used, over, units_shown, least_from, least, Derived, derived, exists}
use Rattle.rules.specs.Book.{is_queued, Entry, any}
use Rattle.rules.specs.Messages.{National, Terms, Body, local, national, order, response, modify, cancel, clock, reduce}
use Rattle.rules.specs.Refusals.{refusal}
use Rattle.rules.specs.State.{Pending, Auction, none, pending, State, taken, is_pending, reached, contra_price, contra_prices}
use Rattle.rules.specs.Auction.{eligible, auction_of, existing, ends_by_order, joins, ends_by_legs, keeping, units_at, seen, looked}
use Rattle.rules.specs.Execution.{Reply}
use Rattle.rules.specs.Step.{Act, goes_on, begins, joining, ends, Intake, national_quote, changed, local_in, national_in, cancel_in, order_intake, take_in, quiet, follow, records_of, plain, outcome_of, Answer, watched, acted, accepted, step}
use Rattle.rules.specs.Run.{Sent, answer_to, after}
use Rattle.rules.specs.Reached.{Inv}
use Rattle.rules.specs.LegsKept.{reading, readings, taken_in, Shows, ShownIn, IsLeast, KeptSince, LegsKeptOfRules}
use Rattle.rules.proofs.BasicsLaws.{all_map, all_append}
use Rattle.rules.proofs.TestLaws.{pick_both, pick_if, eq_of}
use Rattle.rules.proofs.ServeLaws.{steps-served, ending_none}
use Rattle.rules.proofs.IntakeLaws.{Admitted, admitted, take_inv, new_order, watched_inv}
use Rattle.rules.proofs.RunLaws.{step_fine, opened, opened_inv}

-- ---- the least of what a price has shown

module _ (buy : Bool) (p : ℕ) (s : State) where
  -- what it shows is what is read
  shows-read : Shows buy p s (units_at p (contra_prices s buy))
  shows-read =
      elim (ℕ_discrete (contra_price s buy).price p) [
        | yes e ↦ inl (e, rw (eq-eqb (contra_price s buy).price p e) refl)
        | no n ↦ inr (n, rw (ne_eqb (contra_price s buy).price p n) refl)
      ]

  -- and nothing else
  shows-only : (k : ℕ) → Shows buy p s k → k ≡ units_at p (contra_prices s buy)
  shows-only k (inl h) = rw (eq-eqb (contra_price s buy).price p h.0) h.1
  shows-only k (inr h) = rw (ne_eqb (contra_price s buy).price p h.0) h.1

shown-before : (buy : Bool) (p n : ℕ) (rs : List State) (s : State) → ShownIn buy p n rs → ShownIn buy p n (rs ++ (s ∷ []))
shown-before buy p n [] s h = absurd h
shown-before buy p n (r ∷ rs) s (inl h) = inl h
shown-before buy p n (r ∷ rs) s (inr h) = inr (shown-before buy p n rs s h)

shown_last : (buy : Bool) (p n : ℕ) (rs : List State) (s : State) → Shows buy p s n → ShownIn buy p n (rs ++ (s ∷ []))
shown_last buy p n [] s h = inl h
shown_last buy p n (r ∷ rs) s h = inr (shown_last buy p n rs s h)

least_more : (buy : Bool) (p n : ℕ) (rs : List State) (s : State) → IsLeast buy p n rs → IsLeast buy p (min n (units_at p (contra_prices s buy))) (rs ++ (s ∷ []))
least_more buy p n rs s l =
    let x : ℕ = units_at p (contra_prices s buy) in
    record {
      shown = elim (dec_lt x n) [
        | yes h ↦ let e : min n x ≡ x = omega arith in rw e (shown_last buy p x rs s (shows-read buy p s))
        | no h ↦ let e : min n x ≡ n = omega arith in rw e (shown-before buy p n rs s l.shown)
      ];
      least = all_append (λ r. (k : ℕ) → Shows buy p r k → min n x ≤ k) rs (s ∷ [])
          (all_map (λ r. (k : ℕ) → Shows buy p r k → n ≤ k) (λ r. (k : ℕ) → Shows buy p r k → min n x ≤ k) (λ r f k h. omega (arith, f k h)) rs l.least)
          (λ k h. omega (arith, shows-only buy p s k h), tt);
    }

-- one more look at the legs
kept_more : (buy : Bool) (rs : List State) (ks : List Derived) (s : State) → KeptSince buy rs ks → KeptSince buy (rs ++ (s ∷ [])) (seen ks (contra_prices s buy))
kept_more buy [] ks s h = absurd h
kept_more buy (r ∷ rs) [] s h = h
kept_more buy (r ∷ rs) (k ∷ []) s h = (h.0, h.1, least_more buy k.price k.units (r ∷ rs) s h.2)
kept_more buy (r ∷ rs) (k ∷ j ∷ ks) s h = absurd h

-- the prices at the start
existing-seen : (d : Derived) → seen (existing (d ∷ [])) (d ∷ []) ≡ existing (d ∷ [])
existing-seen d = go (exists d)
  where
    least : min d.units (units_at d.price (d ∷ [])) ≡ d.units
    least = rw (eq-eqb d.price d.price refl) (omega arith)

    go : (b : Bool) → seen (pick b (d ∷ []) []) (d ∷ []) ≡ pick b (d ∷ []) []
    go true = λ i. record { price = d.price; units = least i } ∷ []
    go false = refl

-- the first look
kept_first : (buy : Bool) (s : State) → KeptSince buy (s ∷ []) (seen (existing (contra_prices s buy)) (contra_prices s buy))
kept_first buy s =
    let d : Derived = contra_price s buy in
    subst (KeptSince buy (s ∷ [])) (sym (existing-seen d))
    (elim (dec_lt 0 d.units) [
      | yes h ↦ rw (lt-ltb 0 d.units h) (h, refl, record { shown = inl (inl (refl, refl)); least = (λ k f. elim f [ inl g ↦ omega (arith, g.1) | inr g ↦ absurd (g.0 refl) ], tt) })
      | no h ↦ rw (le-ltb 0 d.units (omega arith)) (omega arith)
    ])

-- ---- a message taken in, and read

-- what is kept of the legs, by the states that were read
abbrev Keeps : List State → State → Type 0
Keeps rs s = (p : Pending) → s.auction ≡ pending p → KeptSince p.buy rs p.start

-- the states read with one more, by what the message does
abbrev read_by : Act → State → List State → List State
read_by goes_on s rs = rs ++ (s ∷ [])
read_by begins s rs = s ∷ []
read_by joining s rs = rs ++ (s ∷ [])
read_by (ends c) s rs = rs ++ (s ∷ [])

plain-reading : (b : Body) (s x : State) (n : ℕ) (rs : List State) → reading (plain b s n) x rs ≡ rs ++ (x ∷ [])
plain-reading (local q) s x n rs = refl
plain-reading (national q) s x n rs = refl
plain-reading (order t w) s x n rs = refl
plain-reading (response t) s x n rs = refl
plain-reading (modify c) s x n rs = refl
plain-reading (cancel i p) s x n rs = refl
plain-reading clock s x n rs = refl
plain-reading (reduce i p u) s x n rs = refl

act_reading : (b : Body) (a : Act) (s x : State) (n : ℕ) (rs : List State) → reading (outcome_of b a s n) x rs ≡ read_by a x rs
act_reading b goes_on s x n rs = plain-reading b s x n rs
act_reading b begins s x n rs = refl
act_reading b joining s x n rs = refl
act_reading b (ends c) s x n rs = refl

-- the auction after an intake: begun with the prices that the legs have, or as it was
abbrev pub TakenAs : Act → State → Auction → State → Type 0
TakenAs goes_on s a x = a ≡ s.auction
TakenAs begins s a x = (o : Entry) × (a ≡ auction_of x o s.clock.time)
TakenAs joining s a x = a ≡ s.auction
TakenAs (ends c) s a x = a ≡ s.auction

order_taken : (s : State) (a : Auction) (t : Terms) (w : Bool) → TakenAs (order_intake s a t w).act s (order_intake s a t w).state.auction (order_intake s a t w).state
unfolding order_intake
order_taken s none t w = pick_both (λ (i : Intake). TakenAs i.act s i.state.auction i.state) (w && eligible s (new_order s t)) (new_order s t, refl) refl
order_taken s (pending p) t w =
    pick_both (λ (i : Intake). TakenAs i.act s i.state.auction i.state) (ends_by_order s p (new_order s t)) refl
    (pick_both (λ (i : Intake). TakenAs i.act s i.state.auction i.state) (joins s p w (new_order s t)) refl refl)

pub take_taken : (s : State) (b : Body) → TakenAs (take_in s b).act s (take_in s b).state.auction (take_in s b).state
unfolding take_in
take_taken s (local q) = let r : State = local_in s q in pick_both (λ (a : Act). TakenAs a s r.auction r) (ends_by_legs r r.auction) refl refl
take_taken s (national q) = refl
take_taken s (order t w) = order_taken s s.auction t w
take_taken s (response t) = refl
take_taken s (modify c) = refl
take_taken s (cancel i p) = let r : State = cancel_in s i in pick_both (λ (a : Act). TakenAs a s r.auction r) (is_pending r.auction && not (any (λ e. is_queued e.stage) r.book)) refl refl
take_taken s clock = pick_both (λ (a : Act). TakenAs a s s.auction s) (reached s.auction s.clock.time) refl refl
take_taken s (reduce i p n) = refl

watched-taken : (b : Body) (a : Act) (s r : State) → TakenAs a s r.auction r → TakenAs a s r.auction (watched b r)
watched-taken b goes_on s r t = t
watched-taken b begins s r t = t
watched-taken b joining s r t = t
watched-taken b (ends c) s r t = t

-- ---- where the legs show what they showed, one more look changes nothing

-- what is kept is no more than they show
abbrev IsRead : State → Type 0
IsRead s = looked s.auction (contra_prices s) ≡ s.auction

seen_again : (ks ds : List Derived) → seen (seen ks ds) ds ≡ seen ks ds
seen_again [] ds = refl
seen_again (k ∷ ks) ds =
    let x : ℕ = units_at k.price ds in
    let e : min (min k.units x) x ≡ min k.units x = omega arith in
    λ i. record { price = k.price; units = e i } ∷ seen_again ks ds i

looked_again : (a : Auction) (now : Bool → List Derived) → looked (looked a now) now ≡ looked a now
looked_again none now = refl
looked_again (pending p) now = ap (λ (ks : List Derived). pending (keeping ks p)) (seen_again p.start (now p.buy))

looked-same : (a : Auction) (f g : Bool → List Derived) → ((buy : Bool) → f buy ≡ g buy) → looked a f ≡ looked a g
looked-same none f g e = refl
looked-same (pending p) f g e = ap (λ (ds : List Derived). pending (keeping (seen p.start ds) p)) (e p.buy)

none_looked : (a : Auction) (now : Bool → List Derived) → is_pending a ≡ false → looked a now ≡ a
none_looked none now h = refl
none_looked (pending p) now h = absurd (true≢false h)

-- national prices are not in a derived price
over_national : (b ask : Bool) (m : National) (k : ℕ) (ls : List Leg) (qs : List Quote) → over b (λ l q. (used ask l q).price) ls (changed (national_quote m) k qs) ≡ over b (λ l q. (used ask l q).price) ls qs
over_national b ask m k [] qs = refl
over_national b ask m k (l ∷ ls) [] = refl
over_national b ask m zero (l ∷ ls) (q ∷ qs) = refl
over_national b ask m (suc k) (l ∷ ls) (q ∷ qs) = ap (λ (n : ℕ). pick (is_b l.side) (pick b (l.ratio * (used ask l q).price) 0) (pick b 0 (l.ratio * (used ask l q).price)) + n) (over_national b ask m k ls qs)

from_national : (n : ℕ) (ask : Bool) (m : National) (k : ℕ) (ls : List Leg) (qs : List Quote) → least_from n ask ls (changed (national_quote m) k qs) ≡ least_from n ask ls qs
from_national n ask m k [] qs = refl
from_national n ask m k (l ∷ ls) [] = refl
from_national n ask m zero (l ∷ ls) (q ∷ qs) = refl
from_national n ask m (suc k) (l ∷ ls) (q ∷ qs) = from_national (min n (units_shown ask l q)) ask m k ls qs

least_national : (ask : Bool) (m : National) (k : ℕ) (ls : List Leg) (qs : List Quote) → least ask ls (changed (national_quote m) k qs) ≡ least ask ls qs
least_national ask m k [] qs = refl
least_national ask m k (l ∷ ls) [] = refl
least_national ask m zero (l ∷ ls) (q ∷ qs) = refl
least_national ask m (suc k) (l ∷ ls) (q ∷ qs) = from_national (units_shown ask l q) ask m k ls qs

national_same : (s : State) (m : National) (buy : Bool) → contra_prices (national_in s m) buy ≡ contra_prices s buy
unfolding derived
national_same s m buy =
    let ls : List Leg = s.strategy.legs in
    let qs : List Quote = s.market in
    λ i. record { price = most_cents + over_national true buy m m.leg ls qs i - over_national false buy m m.leg ls qs i; units = least_national buy m m.leg ls qs i } ∷ []

order_read : (s : State) (a : Auction) (t : Terms) (w : Bool) → IsRead s → IsRead (order_intake s a t w).state
unfolding order_intake
order_read s none t w h =
    let o : Entry = new_order s t in
    pick_both (λ (i : Intake). IsRead i.state) (w && eligible s o)
    (ap (λ (ks : List Derived). pending (record { buy = o.buy; deadline = s.clock.time + s.strategy.settings.interval; start = ks })) (existing-seen (contra_price s o.buy))) h
order_read s (pending p) t w h =
    pick_both (λ (i : Intake). IsRead i.state) (ends_by_order s p (new_order s t)) h (pick_both (λ (i : Intake). IsRead i.state) (joins s p w (new_order s t)) h h)

-- so every message is read
take_read : (s : State) (b : Body) → IsRead s → (watched b (take_in s b).state).auction ≡ looked (take_in s b).state.auction (contra_prices (take_in s b).state)
unfolding take_in
take_read s (local q) h = refl
take_read s (national q) h = sym (looked-same s.auction (contra_prices (national_in s q)) (contra_prices s) (national_same s q) ∙ h)
take_read s (order t w) h = sym (order_read s s.auction t w h)
take_read s (response t) h = sym h
take_read s (modify c) h = sym h
take_read s (cancel i p) h = sym h
take_read s clock h = sym h
take_read s (reduce i p n) h = sym h

-- ---- what is kept once it is

abbrev pending_in : Pending → Auction → Pending
pending_in p none = p
pending_in p (pending q) = q

looked_keeps : (a : Auction) (rs : List State) (x : State) → ((q : Pending) → a ≡ pending q → KeptSince q.buy rs q.start) → (p : Pending) → looked a (contra_prices x) ≡ pending p → KeptSince p.buy (rs ++ (x ∷ [])) p.start
looked_keeps none rs x k p e = absurd (true≢false (sym (ap is_pending e)))
looked_keeps (pending q) rs x k p e = subst (λ (r : Pending). KeptSince r.buy (rs ++ (x ∷ [])) r.start) (ap (pending_in q) e) (kept_more q.buy rs q.start x (k q refl))

read_keeps : (a : Act) (s : State) (u : Auction) (x : State) (rs : List State) → TakenAs a s u x → Keeps rs s → (p : Pending) → looked u (contra_prices x) ≡ pending p → KeptSince p.buy (read_by a x rs) p.start
read_keeps goes_on s u x rs t k = looked_keeps u rs x (λ q e. k q (sym t ∙ e))
read_keeps begins s u x rs t k =
    λ p e. let o : Entry = t.0 in
    subst (λ (r : Pending). KeptSince r.buy (x ∷ []) r.start) (ap (pending_in p) (ap (λ (v : Auction). looked v (contra_prices x)) (sym t.1) ∙ e)) (kept_first o.buy x)
read_keeps joining s u x rs t k = looked_keeps u rs x (λ q e. k q (sym t ∙ e))
read_keeps (ends c) s u x rs t k = looked_keeps u rs x (λ q e. k q (sym t ∙ e))

-- ---- and followed up

not_pending : (s : State) (p : Pending) → is_pending s.auction ≡ false → s.auction ≡ pending p → ⊥
not_pending s p n e = true≢false (sym (ap is_pending e) ∙ n)

-- what a message leaves, which act a does in state s
record Left (rs : List State) (a : Act) (s : State) : Type 0 where
  pub read : IsRead s
  pub keeps : Keeps (read_by a s rs) s

-- no auction is pending
left_none : (rs : List State) (a : Act) (s : State) → is_pending s.auction ≡ false → Left rs a s
left_none rs a s n = record { read = none_looked s.auction (contra_prices s) n; keeps = λ p e. absurd (not_pending s p n e) }

module _ (s r : State) (b : Body) (rs : List State) (v : Inv (watched b r)) (d : (watched b r).auction ≡ looked r.auction (contra_prices r)) (k : Keeps rs s) where
  -- nothing trades: it is as it was read
  left-read : (a : Act) → TakenAs a s r.auction r → Left rs a (watched b r)
  left-read a t =
      record {
        read = ap (λ (x : Auction). looked x (contra_prices r)) d ∙ looked_again r.auction (contra_prices r) ∙ sym d;
        keeps = λ p e. read_keeps a s r.auction (watched b r) rs (watched-taken b a s r t) k p (sym d ∙ e);
      }

  quiet-left : (x : Auction) → (watched b r).auction ≡ x → TakenAs goes_on s r.auction r → Left rs goes_on (quiet (watched b r) x).state
  quiet-left none e t = left_none rs goes_on (quiet (watched b r) none).state ((steps-served (watched b r) v).auction ∙ ap is_pending e)
  quiet-left (pending y) e t = left-read goes_on t

  follow-left : (a : Act) → TakenAs a s r.auction r → Left rs a (follow (watched b r) a).state
  follow-left goes_on t = quiet-left (watched b r).auction refl t
  follow-left begins t = left-read begins t
  follow-left joining t = left-read joining t
  follow-left (ends c) t = left_none rs (ends c) (follow (watched b r) (ends c)).state (ending_none (watched b r) v)

-- what holds of a state after some messages
record Kept (rs : List State) (s : State) : Type 0 where
  pub inv : Inv s
  pub read : IsRead s
  pub keeps : Keeps rs s

-- an answer, by the states that were read before it
abbrev Answered : List State → Answer → Type 0
Answered rs a = IsRead a.state × Keeps (reading a.outcome a.state rs) a.state

acted_keeps : (s : State) (b : Body) (rs : List State) → Admitted s b → IsRead s → Keeps rs s → Answered rs (acted s b)
unfolding acted
acted_keeps s b rs a h k =
    let i : Intake = take_in s b in
    let q : Reply = follow (watched b i.state) i.act in
    let l : Left rs i.act q.state = follow-left s i.state b rs (watched_inv b i.state (take_inv s b a)) (take_read s b h) k i.act (take_taken s b) in
    (l.read, rw (act_reading b i.act q.state q.state (length (records_of q.turns)) rs) l.keeps)

step_keeps : (s : State) (m : Sent) (rs : List State) → Kept rs s → Answered rs (answer_to s m)
unfolding step accepted
step_keeps s m rs k =
    pick_if (Answered rs) (eqb (refusal s m.message m.room) 0)
    (λ e. acted_keeps (taken s m.message.time) m.message.body rs (admitted s m.message m.room k.inv (eq_of (refusal s m.message m.room) 0 e)) k.read k.keeps) (λ e. (k.read, k.keeps))

-- ---- a run

after_keeps : (s : State) (ms : List Sent) (rs : List State) → Kept rs s → Kept (readings s ms rs) (after s ms)
unfolding after readings
after_keeps s [] rs k = k
after_keeps s (m ∷ ms) rs k =
    let n : Answered rs (answer_to s m) = step_keeps s m rs k in
    after_keeps (answer_to s m).state ms (reading (answer_to s m).outcome (answer_to s m).state rs) (record { inv = (step_fine s m.message m.room k.inv).inv; read = n.0; keeps = n.1 })

taken_keeps : (s : State) (m : Sent) (rs : List State) → Kept rs s → refusal s m.message m.room ≡ 0 → (p : Pending) → (watched m.message.body (taken_in s m)).auction ≡ pending p
    → KeptSince p.buy (reading (answer_to s m).outcome (taken_in s m) rs) p.start
unfolding step accepted acted
taken_keeps s m rs k h p e =
    let b : Body = m.message.body in
    let t : State = taken s m.message.time in
    let i : Intake = take_in t b in
    let q : Reply = follow (watched b i.state) i.act in
    rw (eq-eqb (refusal s m.message m.room) 0 h, act_reading b i.act q.state i.state (length (records_of q.turns)) rs)
    (read_keeps i.act t i.state.auction i.state rs (take_taken t b) k.keeps p (sym (take_read t b k.read) ∙ e))

pub legs_kept_of_rules : LegsKeptOfRules
unfolding LegsKeptOfRules
legs_kept_of_rules o s h ms p =
    let n : is_pending s.auction ≡ false = ap (λ (r : State). is_pending r.auction) (sym (opened o s h).1) in
    let k : Kept (readings s ms []) (after s ms) =
    after_keeps s ms [] (record { inv = opened_inv o s h; read = none_looked s.auction (contra_prices s) n; keeps = λ q e. absurd (not_pending s q n e) }) in
    (k.keeps p, λ m r e. taken_keeps (after s ms) m (readings s ms []) k r p e)
