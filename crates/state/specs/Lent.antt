-- What a function tells of the state in lent slices, and what it makes of it: said of the slices themselves, for contracts.
use Rattle.std.specs.Prelude.{◌≡◌, List, ℕ}
use denote.Triple.Both.{Both}
use Rattle.std.specs.Borrow.{Bor, MutBor}
use Rattle.rules.specs.State.{State}
use Rattle.state.specs.View.{state_of}

-- a slice lent to be read, as it was passed and as it is given back
abbrev pub Lent : Type 0
Lent = Both (Bor (List ℕ)) (Bor (List ℕ))

-- a slice lent to be changed, as it was passed and as it is given back
abbrev pub LentMut : Type 0
LentMut = Both (MutBor (List ℕ)) (MutBor (List ℕ))

-- it holds of the state that some longs and words are
abbrev pub TellsBoth : List ℕ → List ℕ → (State → Type 0) → Type 0
TellsBoth longs words P = P (state_of longs words)

-- it holds of the state with these words, whatever the longs are
abbrev pub Tells : Lent → (State → Type 0) → Type 0
Tells words P = (longs : List ℕ) → P (state_of longs words.entry.now)

-- the state becomes f of what it was
abbrev pub Becomes : LentMut → LentMut → (State → State) → Type 0
Becomes longs words f = state_of longs.exit.now words.exit.now ≡ f (state_of longs.entry.now words.entry.now)

-- the same for a change of the words, whatever the longs are
abbrev pub WordsBecome : LentMut → (State → State) → Type 0
WordsBecome words f = (longs : List ℕ) → state_of longs words.exit.now ≡ f (state_of longs words.entry.now)

-- and of the longs, whatever the words are
abbrev pub LongsBecome : LentMut → (State → State) → Type 0
LongsBecome longs f = (words : List ℕ) → state_of longs.exit.now words ≡ f (state_of longs.entry.now words)
