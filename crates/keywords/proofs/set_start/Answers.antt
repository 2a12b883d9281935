-- `keywords::set_start` meets its contract: a case for each way out.
use mathlib.Core.Path.{refl, ap}
use borrow.Author.Tests.{lt-ltb, le-ltb}
use Rattle.table_rules.specs.ColumnDesc.{no_column}
use Rattle.keyword_rules.specs.Keywords.{search_at}
use Rattle.keyword_rules.proofs.Searches.{not_described, no_scope, in_scope}
use Rattle.keywords.proofs.set_start.Goals as goal

pub returns-then-d-ne0-clause-refused : goal.returns-then-d-ne0-clause-refused
returns-then-d-ne0-clause-refused c = λ path sought. not_described _ _ path sought c.describe-d.ensures.value c.if-d-ne0.true

pub returns-in-Table-clause-there : goal.returns-in-Table-clause-there
returns-in-Table-clause-there c = λ path sought. rw c.in-Table.is
    (in_scope _ _ path sought c.describe-d.ensures.value c.if-d-ne0.false refl (ap (search_at c.args.s.now path sought) c.table_keywords.ensures))

pub returns-in-Column-clause-there : goal.returns-in-Column-clause-there
unfolding no_column
returns-in-Column-clause-there c = λ path sought. rw c.in-Column.is
    (in_scope _ _ path sought c.describe-d.ensures.value c.if-d-ne0.false (lt-ltb _ _ c.if-k-d.true) (ap (search_at c.args.s.now path sought) c.column_keywords.ensures))

pub returns-in-Column-2-clause-refused : goal.returns-in-Column-2-clause-refused
returns-in-Column-2-clause-refused c = λ path sought. rw c.in-Column.is (no_scope _ _ path sought c.describe-d.ensures.value c.if-d-ne0.false (le-ltb _ _ c.if-k-d.false))
