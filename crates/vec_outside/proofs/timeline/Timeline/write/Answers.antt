use Rattle.std.proofs.Common.{◌≡◌, ◌∙◌, ℕ, List, ◌∷◌, ap, length, take, drop}
use Rattle.vec_outside.specs.declared.timeline.Call.TheVariants.{Wrote}
use Rattle.vec_outside.specs.MemWrite.{write_of}
use Rattle.vec_outside.specs.Areas.{bytes_of}
use Rattle.vec_outside.proofs.InMemory.{as_write, elapses_same, is_written, elapses_write, is_pending, still_synced}
use Rattle.vec_outside.proofs.Exits.{on_ok}
use Rattle.vec_outside.proofs.timeline.Timeline.write.Goals as goal

-- what was kept is what stood in the range
kept : (c : goal.After-overwrite_if) → c.in_ok-write.write.was.items ≡ take (length c.args.bytes.now) (drop c.args.at (bytes_of c.args.self.now.areas c.args.area))
kept c = c.in_ok-write.ensures.was ∙ ap (λ (l : List ℕ). take (length c.args.bytes.now) (drop c.args.at l)) c.bytes-now.ensures

-- and it is noted as the newest call
noted : (c : goal.After-overwrite_if) → c.push_front.new.self.items ≡ Wrote (write_of c.args.area c.args.at (length c.args.bytes.now) c.in_ok-write.write.was c.in_ok-write.write.refused) ∷ c.args.self.now.done.items
noted c = c.in_ok-push_front.ensures.items ∙ ap (λ w. Wrote w ∷ c.args.self.now.done.items) (as_write c.in_ok-write.write c.args.area c.args.at (length c.args.bytes.now) c.in_ok-write.ensures.whole)

pub returns-clause-written : goal.returns-clause-written
returns-clause-written c =
    is_written c.args.area c.args.at (length c.args.bytes.now) c.in_ok-write.write.was c.in_ok-write.write.refused (bytes_of c.args.self.now.areas) (bytes_of c.overwrite_if.new.self)
    c.args.self.now.done.items _ (noted c) (kept c) c.overwrite_if.ensures.torn c.overwrite_if.ensures.others

pub returns-clause-pending : goal.returns-clause-pending
returns-clause-pending c =
    on_ok c.overwrite_if.result
    (is_pending c.args.area c.args.at (length c.args.bytes.now) c.in_ok-write.write.was c.in_ok-write.write.refused (bytes_of c.args.self.now.areas) (bytes_of c.overwrite_if.new.self)
    c.args.self.now.done.items _ (noted c) (kept c) c.overwrite_if.ensures.torn c.overwrite_if.ensures.others)

pub returns-clause-synced : goal.returns-clause-synced
returns-clause-synced c =
    still_synced c.args.area c.args.at (length c.args.bytes.now) c.in_ok-write.write.was c.in_ok-write.write.refused (bytes_of c.args.self.now.areas) (bytes_of c.overwrite_if.new.self)
    c.args.self.now.done.items _ (noted c) (kept c) c.overwrite_if.ensures.torn c.overwrite_if.ensures.others

pub returns-clause-time : goal.returns-clause-time
returns-clause-time c =
    elapses_write c.args.area c.args.at (length c.args.bytes.now) c.in_ok-write.write.was c.in_ok-write.write.refused (bytes_of c.args.self.now.areas) (bytes_of c.overwrite_if.new.self)
    c.args.self.now.done.items _ (noted c) (kept c) c.overwrite_if.ensures.torn c.overwrite_if.ensures.others

pub returns-in_err-push_front-clause-time : goal.returns-in_err-push_front-clause-time
returns-in_err-push_front-clause-time c = elapses_same (bytes_of c.args.self.now.areas) c.args.self.now.done.items _ c.in_err-push_front.ensures.items
