use Rattle.std.proofs.Common.{◌≡◌, ◌≤◌, [], ◌∷◌, Ok, Err, sym, ◌∙◌, arith, rules}
use Rattle.commands.specs.Commands.{generate_ac}
use Rattle.commands.proofs.Data.{with_data, without_data}
use Rattle.commands.proofs.Frames.{done, done_empty, not_done}
use Rattle.commands.proofs.Shapes.{generate_empty, generate_full}
use Rattle.commands.proofs.generate.generate_with.Goals as goal

pub returns-in_err-size : goal.returns-in_err-size
returns-in_err-size g c =
    let held = g.S.ReadStore.held c.args.store.now in
    let is : c.dol_size.result ≡ Err (record {}) = grind arith in
    let refused : c.from_residual.result ≡ Err c.args.fault = grind arith in
    let none = not_done c.args.fault (generate_ac c.args.kind) held 255 c.args.cdol1.now c.args.command.now (sym (without_data held 255 c.args.cdol1.now (record {}) (sym is ∙ c.dol_size.ensures.value))) in
    record { value = refused ∙ none.0; after = none.1 }

pub overflow_cast-header : goal.overflow_cast-header
overflow_cast-header g c =
    let is : c.dol_size.result ≡ Ok c.in_ok-size.size = grind arith in
    let size = sym is ∙ c.dol_size.ensures.value in
    let small : c.in_ok-size.size ≤ 255 = (with_data (g.S.ReadStore.held c.args.store.now) 255 c.in_ok-size.size c.args.cdol1.now size).most in
    search rules

pub returns-then-size-eq0 : goal.returns-then-size-eq0
returns-then-size-eq0 g c =
    let is : c.dol_size.result ≡ Ok c.in_ok-size.size = grind arith in
    let size = sym is ∙ c.dol_size.ensures.value in
    let end = done_empty c.args.fault (generate_ac c.args.kind) (g.S.ReadStore.held c.args.store.now) 255 c.in_ok-size.size c.args.cdol1.now _ c.args.command.now c.copy_from_slice.new.self size c.if-size-eq0.true
    (generate_empty c.args.kind c.class.result c.instruction.result c.parameter.result c.in_ok-size.size c.class.ensures c.instruction.ensures c.parameter.ensures c.if-size-eq0.true) c.copy_from_slice.ensures.after in
    record { value = end.0; after = end.1 }

pub write_around-requires : goal.write_around-requires
write_around-requires g c =
    let is : c.dol_size.result ≡ Ok c.in_ok-size.size = grind arith in
    let size = sym is ∙ c.dol_size.ensures.value in
    let d = with_data (g.S.ReadStore.held c.args.store.now) 255 c.in_ok-size.size c.args.cdol1.now size in
    record { sized = d.sized; room = omega (arith, d.most) }

pub returns : goal.returns
returns g c =
    let is : c.dol_size.result ≡ Ok c.in_ok-size.size = grind arith in
    let size = sym is ∙ c.dol_size.ensures.value in
    let end = done c.args.fault (generate_ac c.args.kind) (g.S.ReadStore.held c.args.store.now) 255 c.in_ok-size.size c.write_around.result c.args.cdol1.now (c.class.result ∷ c.instruction.result ∷ c.parameter.result ∷ 0 ∷ c.in_ok-size.size ∷ []) c.args.command.now c.write_around.new.command size
    (generate_full c.args.kind c.class.result c.instruction.result c.parameter.result c.in_ok-size.size c.class.ensures c.instruction.ensures c.parameter.ensures c.if-size-eq0.false) c.write_around.ensures.value c.write_around.ensures.after in
    record { value = end.0; after = end.1 }
