-- `row::put_entry` meets its contract. A record of the entry's fields is its bytes.
use Rattle.row.proofs.Writing.{put-update, put_commit, put_abort}
use Rattle.row.proofs.put_entry.Goals as goal

pub returns-in-Update : goal.returns-in-Update
returns-in-Update c = put-update _ _ _ _ _ _ _ _ c.in-Update.is c.put_record.ensures

pub returns-in-Commit : goal.returns-in-Commit
returns-in-Commit c = put_commit _ _ _ _ _ c.in-Commit.is c.put_record-in-Commit.ensures

pub returns-in-Abort : goal.returns-in-Abort
returns-in-Abort c = put_abort _ _ _ _ _ c.in-Abort.is c.put_record-in-Abort.ensures
