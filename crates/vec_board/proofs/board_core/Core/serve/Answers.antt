use Rattle.std.proofs.Common.{◌≡◌, refl}
use Rattle.vec_steps.specs.declared.fault.StepFault.TheVariants.{Memory}
use Rattle.vec_steps.specs.Desks.{Asks, WantsMemory}
use Rattle.vec_steps.specs.Calls.{Failed}
use Rattle.vec_board.specs.Standing.{acts_of}
use Rattle.vec_board.specs.Acting.{IsAsBefore}
use Rattle.vec_board.specs.Looking.{desk_of}
use Rattle.vec_board.specs.Serving.{StandsSomehow, spare_of}
use Rattle.vec_board.specs.Changes.{StandsWithin}
use Rattle.vec_board.specs.AllAsks.{ServesBeside}
use Rattle.vec_board.proofs.SteppedBy.{narrowed, narrowed_failure}
use Rattle.vec_board.proofs.PartsServe.{on_ok_map, if_err_map, if_err_both, by_memory, turn_within, change_within, room_leaves, turn_leaves}
use Rattle.vec_board.proofs.board_core.Core.serve.Goals as goal

pub returns-in-Look-clause-err : goal.returns-in-Look-clause-err
returns-in-Look-clause-err g c =
    let d = desk_of c.args.self.now c.args.desk in
    let acts = acts_of c.args.self.now in
    let over = Asks (ServesBeside c.args.self.now (g.P.PageSet.held c.args.pages.now) c.args.ask.now) d acts c.args.ask.now in
    if_err_map (λ fault. (fault ≡ Memory) × WantsMemory 0 c.args.ask.now) (Failed over d acts acts c.args.ask.now) c.look.result
    (λ fault is. by_memory over d acts acts c.args.ask.now refl fault is.0) c.look.ensures.memory

pub returns-in-Room-clause-leaves : goal.returns-in-Room-clause-leaves
returns-in-Room-clause-leaves g c = λ all base s holds may.
    on_ok_map c.make_ready.result
    (λ still. room_leaves c.args.self.now c.make_ready.new.self (g.P.PageSet.held c.args.pages.now) c.args.ask.now c.make_ready.new.told c.in-Room.ensures all base still)
    (c.make_ready.ensures.leaves all base s)

pub returns-in-Room-clause-err : goal.returns-in-Room-clause-err
returns-in-Room-clause-err g c =
    let d = desk_of c.args.self.now c.args.desk in
    let acts = acts_of c.args.self.now in
    let new = acts_of c.make_ready.new.self in
    let over = Asks (ServesBeside c.args.self.now (g.P.PageSet.held c.args.pages.now) c.args.ask.now) d acts c.args.ask.now in
    if_err_both (IsAsBefore c.args.self.now c.make_ready.new.self) (λ fault. (fault ≡ Memory) × WantsMemory (spare_of c.args.self.now c.args.desk) c.args.ask.now)
    (Failed over d acts new c.args.ask.now) c.make_ready.result
    (λ fault kept is. by_memory over d acts new c.args.ask.now kept.acts fault is.0) c.make_ready.ensures.kept c.make_ready.ensures.memory

pub returns-in-Turn-clause-ok : goal.returns-in-Turn-clause-ok
returns-in-Turn-clause-ok g c =
    let d = desk_of c.args.self.now c.args.desk in
    let acts = acts_of c.args.self.now in
    on_ok_map c.turn.result
    (λ step idle. narrowed (Asks (StandsSomehow c.args.self.now) d acts c.args.ask.now)
    (Asks (ServesBeside c.args.self.now (g.P.PageSet.held c.args.pages.now) c.args.ask.now) d acts c.args.ask.now) d acts (acts_of c.turn.new.self)
    c.args.ask.now c.turn.new.ask c.turn.new.told
    (turn_within c.args.self.now (g.P.PageSet.held c.args.pages.now) c.args.desk c.args.ask.now) (step idle))
    c.turn.ensures.ok

pub returns-in-Turn-clause-leaves : goal.returns-in-Turn-clause-leaves
returns-in-Turn-clause-leaves g c = λ all base s holds may.
    on_ok_map c.turn.result
    (λ still. turn_leaves c.args.self.now c.turn.new.self (g.P.PageSet.held c.args.pages.now) c.args.ask.now c.turn.new.told c.in-Turn.ensures all base still)
    (c.turn.ensures.leaves all base s c.in-Turn.ensures may)

pub returns-in-Change-clause-err : goal.returns-in-Change-clause-err
returns-in-Change-clause-err g c =
    let d = desk_of c.args.self.now c.args.desk in
    let acts = acts_of c.args.self.now in
    let over = Asks (StandsWithin c.args.self.now (g.P.PageSet.held c.args.pages.now) c.args.ask.now) d acts c.args.ask.now in
    let fewer = Asks (ServesBeside c.args.self.now (g.P.PageSet.held c.args.pages.now) c.args.ask.now) d acts c.args.ask.now in
    if_err_map (Failed over d acts (acts_of c.change.new.self) c.args.ask.now) (Failed fewer d acts (acts_of c.change.new.self) c.args.ask.now) c.change.result
    (λ fault is. narrowed_failure over fewer d acts (acts_of c.change.new.self) c.args.ask.now fault
    (change_within c.args.self.now (g.P.PageSet.held c.args.pages.now) c.args.desk c.args.ask.now c.in-Change.ensures) is)
    (c.change.ensures.err c.in-Change.ensures)
