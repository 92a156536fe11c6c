use Rattle.std.proofs.Common.{◌≡◌, ◌⊎◌, ◌+◌, ◌%◌, ◌^◌, ℕ, List, Option, None, length, subst, arith}
use Rattle.page_bytes.specs.Content.{Content}
use Rattle.page_log.specs.Batches.{Placed}
use Rattle.vec_recover.specs.Recovering.{AreOf, IsImaged, IsTouchedBy}
use Rattle.vec_recover.specs.Parts.{AreMarked, AreUpTo, IsLogEnd}
use Rattle.vec_recover.proofs.Rebuilt.{how_of, rebuilt}
use Rattle.vec_recover.proofs.reading.rebuild.Goals as goal

pub returns-in-Ok-among-clause-rebuilt : goal.returns-in-Ok-among-clause-rebuilt
returns-in-Ok-among-clause-rebuilt c images a =
    let rest = c.args.rest in
    let p = c.in-Ok.params in
    let first = c.args.pages.items in
    let now = c.replay_log.new.pages.items in
    let marks = c.add_events.new.self.marks.items in
    let of : AreOf rest.form p first = subst (λ (pages : List Content). AreOf rest.form p pages) c.as_slice.ensures.value c.in-Ok.ensures.ok in
    let ended : IsLogEnd (record { params = p; wrap = c.wrap_of.result; number = (rest.before + 1) % 2 ^ 64 }) rest.events.items rest.bad first now None =
    subst (λ (events : List Placed). IsLogEnd (record { params = p; wrap = c.wrap_of.result; number = (rest.before + 1) % 2 ^ 64 }) events rest.bad first now None)
    c.as_slice-3.ensures.value
    (subst (λ (o : Option ℕ). IsLogEnd (record { params = p; wrap = c.wrap_of.result; number = (rest.before + 1) % 2 ^ 64 }) c.as_slice-3.result.now rest.bad first now o)
    c.in-Ok-None.field-0-is c.in-Ok-None.ensures) in
    let how : IsLogEnd (how_of rest p) rest.events.items rest.bad first now None =
    subst (λ (wrap : ℕ). IsLogEnd (record { params = p; wrap = wrap; number = (rest.before + 1) % 2 ^ 64 }) rest.events.items rest.bad first now None)
    c.wrap_of.ensures ended in
    let marked : AreMarked marks (λ block. IsImaged images block ⊎ IsTouchedBy p rest.events.items block) =
    subst (λ (events : List Placed). AreMarked marks (λ block. IsImaged images block ⊎ IsTouchedBy p events block)) c.as_slice-4.ensures.value
    (c.add_events.ensures images a) in
    let long : c.len.result ≡ length now = omega (arith, c.len.ensures, c.replay_log.new.pages.ok.0) in
    rebuilt rest p first now of how c.in-Ok-among.unwritten.items c.read_of.result c.read_of.ensures images marks marked
    (subst (λ (n : ℕ). AreUpTo marks n c.in-Ok-among.unwritten.items) long c.in-Ok-among.ensures.told)
