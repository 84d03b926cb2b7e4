use Rattle.std.proofs.Common.{◌≡◌, ◌++◌, drop, string_bytes}
use Rattle.replies.specs.Replies.{record_words}
use Rattle.replies.proofs.reply.push_records.Given as goal

abbrev pub invariant-loop-one : goal.invariant-loop-one
invariant-loop-one l = string_bytes l.out ++ record_words (drop l.one-index l.records) ≡ string_bytes l.initial.out ++ record_words l.records
