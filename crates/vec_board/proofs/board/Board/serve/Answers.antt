use Rattle.std.proofs.Common.{refl, sym, ◌∙◌}
use Rattle.vec_steps.specs.Desks.{Asks}
use Rattle.vec_steps.specs.Calls.{Failed, made_by}
use Rattle.vec_steps.specs.Doing.{Ended}
use Rattle.vec_steps.specs.Telling.{step_of}
use Rattle.vec_board.specs.Standing.{acts_of}
use Rattle.vec_board.specs.Looking.{desk_of}
use Rattle.vec_board.specs.AllAsks.{ServesBeside}
use Rattle.vec_board.specs.Boards.{StandsWhole}
use Rattle.vec_board.proofs.SteppedBy.{failed_still, narrowed, narrowed_failure}
use Rattle.vec_board.proofs.PartsServe.{on_ok_map, if_err_map}
use Rattle.vec_board.proofs.WholeSets.{whole, whole_holds, whole_within, whole_made, whole_kept, served_whole, refused_disk}
use Rattle.vec_board.proofs.LoneLaws.{any_desk}
use Rattle.vec_board.proofs.board.Board.serve.Goals as goal

pub returns-then-count_of-from-clause-err : goal.returns-then-count_of-from-clause-err
returns-then-count_of-from-clause-err g c =
    let d = desk_of c.args.self.now.core c.args.desk in
    let acts = acts_of c.args.self.now.core in
    failed_still (Asks (StandsWhole c.args.self.now.core c.args.self.now.pages.pages.items (g.D.Disks.count c.args.self.now.disks)) d acts c.args.ask.now) d acts acts
    c.args.ask.now c.not_allowed.result (refused_disk c.not_allowed.result c.not_allowed.ensures) refl
    (λ base asks. absurd (c.if-count_of-from.true (c.count_of.ensures.listed ∙ sym asks.stood.stands.blocks ∙ sym c.from.ensures)))

pub returns-clause-ok : goal.returns-clause-ok
returns-clause-ok g c =
    let d = desk_of c.args.self.now.core c.args.desk in
    let acts = acts_of c.args.self.now.core in
    let pages = c.args.self.now.pages.pages.items in
    let faults = g.D.Disks.count c.args.self.now.disks in
    on_ok_map c.serve-served.result
    (λ step idle. narrowed (Asks (ServesBeside c.args.self.now.core (whole pages) c.args.ask.now) d acts c.args.ask.now)
    (Asks (StandsWhole c.args.self.now.core pages faults) d acts c.args.ask.now) d acts (acts_of c.serve-served.new.self) c.args.ask.now c.serve-served.new.ask
    c.serve-served.new.told (whole_within c.args.self.now.core pages faults c.args.desk c.args.ask.now) (step idle))
    c.serve-served.ensures.ok

pub returns-clause-err : goal.returns-clause-err
returns-clause-err g c =
    let d = desk_of c.args.self.now.core c.args.desk in
    let acts = acts_of c.args.self.now.core in
    let new = acts_of c.serve-served.new.self in
    let pages = c.args.self.now.pages.pages.items in
    let faults = g.D.Disks.count c.args.self.now.disks in
    let over = Asks (ServesBeside c.args.self.now.core (whole pages) c.args.ask.now) d acts c.args.ask.now in
    let fewer = Asks (StandsWhole c.args.self.now.core pages faults) d acts c.args.ask.now in
    if_err_map (Failed over d acts new c.args.ask.now) (Failed fewer d acts new c.args.ask.now) c.serve-served.result
    (λ fault is. narrowed_failure over fewer d acts new c.args.ask.now fault (whole_within c.args.self.now.core pages faults c.args.desk c.args.ask.now) is)
    c.serve-served.ensures.err

pub returns-clause-stands : goal.returns-clause-stands
returns-clause-stands g c = λ base asks.
    let old = c.args.self.now.core in
    let new = c.serve-served.new.self in
    let pages = c.args.self.now.pages.pages.items in
    let now = c.serve-served.new.pages.pages.items in
    let holds = whole_holds old pages base c.args.ask.now in
    served_whole c.serve-served.result old new pages now (g.D.Disks.count c.args.self.now.disks) base c.args.desk c.args.ask.now c.serve-served.new.ask c.serve-served.new.told
    asks.stood (c.serve-served.ensures.leaves pages base asks.stood.stands holds asks.may)
    (on_ok_map c.serve-served.result (λ is. is ∙ c.tell_count.ensures) c.serve-served.ensures.next)
    c.serve-served.ensures.made c.serve-served.ensures.still c.serve-served.ensures.kept
    (c.serve-served.ensures.kept_pages pages base asks.stood.stands holds asks.may)

pub returns-clause-desk : goal.returns-clause-desk
returns-clause-desk g c = λ number.
    any_desk c.serve-served.result c.args.self.now.core c.serve-served.new.self c.args.desk c.args.ask.now c.serve-served.new.ask c.serve-served.new.told
    c.serve-served.ensures.made c.serve-served.ensures.still c.serve-served.ensures.kept number

pub returns-clause-pages : goal.returns-clause-pages
returns-clause-pages g c = λ base asks.
    let old = c.args.self.now.core in
    let pages = c.args.self.now.pages.pages.items in
    whole_made c.serve-served.result old c.serve-served.new.self pages c.serve-served.new.pages.pages.items base (made_by old.params (step_of c.args.ask.now c.serve-served.new.told Ended))
    (c.serve-served.ensures.leaves pages base asks.stood.stands (whole_holds old pages base c.args.ask.now) asks.may)
    (on_ok_map c.serve-served.result (λ is. is ∙ c.tell_count.ensures) c.serve-served.ensures.next)

pub returns-clause-kept_pages : goal.returns-clause-kept_pages
returns-clause-kept_pages g c = λ base asks.
    let old = c.args.self.now.core in
    let pages = c.args.self.now.pages.pages.items in
    whole_kept c.serve-served.result pages c.serve-served.new.pages.pages.items
    (c.serve-served.ensures.kept_pages pages base asks.stood.stands (whole_holds old pages base c.args.ask.now) asks.may)
