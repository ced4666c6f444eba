-- `store_head` stores the head's 32 bytes: they are a record whose last three numbers are zero.
use mathlib.Core.Path.{ap, ◌∙◌}
use Rattle.scope.specs.Bytes.{put}
use Rattle.medium.proofs.Heads.{head_record}
use Rattle.medium.proofs.head.store_head.Goals as goal

pub returns : goal.returns
returns c = c.put_record.ensures ∙ ap (put _ 0) (head_record _ _ _)
