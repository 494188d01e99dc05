use native.Mathlib.Omega.{arith}
use Rattle.book.proofs.BookLaws.{appended, appended-full}
use borrow.Author.Rules.{rules}
use Rattle.book.proofs.changes.append.Goals as goal

pub returns-then-n-lt-MOST_ENTRIES : goal.returns-then-n-lt-MOST_ENTRIES
returns-then-n-lt-MOST_ENTRIES c =
    let a = c.args in
    rw (c.put_entry.ensures.0, c.put_entry.ensures.1) (appended a.longs.now a.words.now a.e c.open_count-n.result (search rules) c.open_count-n.ensures (omega arith))

pub returns-else-n-lt-MOST_ENTRIES : goal.returns-else-n-lt-MOST_ENTRIES
returns-else-n-lt-MOST_ENTRIES c =
    let a = c.args in
    appended-full a.longs.now a.words.now a.e (omega arith)
