use Rattle.std.proofs.Common.{rules}
use Rattle.bytes_at.specs.Stages.{◌▷◌, or_at}
use Rattle.buckets.specs.Stages.{before_buckets}
use Rattle.buckets.proofs.file.after_header.Goals as goal

pub returns-then-refused-ne0-clause-refused : goal.returns-then-refused-ne0-clause-refused
unfolding before_buckets ◌▷◌ or_at
returns-then-refused-ne0-clause-refused c = search rules

pub returns-then-own-ne0-clause-refused : goal.returns-then-own-ne0-clause-refused
unfolding before_buckets ◌▷◌ or_at
returns-then-own-ne0-clause-refused c = search rules

pub returns-clause-refused : goal.returns-clause-refused
unfolding before_buckets ◌▷◌ or_at
returns-clause-refused c = search rules

pub returns-clause-held : goal.returns-clause-held
unfolding before_buckets ◌▷◌ or_at
returns-clause-held c = search rules
