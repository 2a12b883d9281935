-- `table_rules::data_type::DataType::candidate` meets its contract: each arm computes, and every name has its letters.
use borrow.Author.Tests.{ne_eqb}
use Rattle.bytes_at.specs.Lists.{first_from}
use Rattle.table_rules.proofs.data_type.Candidate.{candidate, no_fourth, no_letter}
use Rattle.table_rules.proofs.data_type.DataType.candidate.Goals as goal

pub returns-then-s-lt4 : goal.returns-then-s-lt4
unfolding first_from
returns-then-s-lt4 c = no_fourth _ c.if-s-lt4.true

pub returns-in-97 : goal.returns-in-97
unfolding first_from
returns-in-97 c = candidate _ (rw (c.in-97.is, c.if-s-eq117.true))

pub returns-in-108 : goal.returns-in-108
unfolding first_from
returns-in-108 c = candidate _ (rw c.in-108.is)

pub returns-in-97-2 : goal.returns-in-97-2
unfolding first_from
returns-in-97-2 c = candidate _ (rw (c.in-97.is, ne_eqb _ _ c.if-s-eq117.false))

pub returns-in-114 : goal.returns-in-114
unfolding first_from
returns-in-114 c = candidate _ (rw c.in-114.is)

pub returns-in-111 : goal.returns-in-111
unfolding first_from
returns-in-111 c = candidate _ (rw c.in-111.is)

pub returns-in-116 : goal.returns-in-116
unfolding first_from
returns-in-116 c = candidate _ (rw c.in-116.is)

pub returns-in-98 : goal.returns-in-98
unfolding first_from
returns-in-98 c = candidate _ (rw c.in-98.is)

pub returns-in-112 : goal.returns-in-112
unfolding first_from
returns-in-112 c = candidate _ (rw c.in-112.is)

pub returns-in-109 : goal.returns-in-109
unfolding first_from
returns-in-109 c = candidate _ (rw c.in-109.is)

pub returns-in-105 : goal.returns-in-105
unfolding first_from
returns-in-105 c = candidate _ (rw c.in-105.is)

pub returns-in-54 : goal.returns-in-54
unfolding first_from
returns-in-54 c = candidate _ (rw c.in-54.is)

pub returns-in_default : goal.returns-in_default
unfolding first_from
returns-in_default c = no_letter _ c.in_default.in_default-own.rest
