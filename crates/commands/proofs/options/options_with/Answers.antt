use Rattle.std.proofs.Common.{◌≡◌, ◌+◌, ◌≤◌, [], ◌∷◌, Ok, Err, sym, ◌∙◌, arith, rules}
use Rattle.commands.specs.declared.instruction.CommandFault.TheVariants.{List as FaultyList}
use Rattle.commands.specs.Commands.{get_options}
use Rattle.commands.proofs.Data.{with_data, without_data}
use Rattle.commands.proofs.Frames.{done, not_done}
use Rattle.commands.proofs.Shapes.{options_short, options_long}
use Rattle.commands.proofs.options.options_with.Goals as goal

pub returns-in_err-size : goal.returns-in_err-size
returns-in_err-size g c =
    let held = g.S.ReadStore.held c.args.store.now in
    let is : c.dol_size.result ≡ Err (record {}) = grind arith in
    let refused : c.from_residual.result ≡ Err FaultyList = grind arith in
    let none = not_done FaultyList get_options held 252 c.args.pdol.now c.args.command.now (sym (without_data held 252 c.args.pdol.now (record {}) (sym is ∙ c.dol_size.ensures.value))) in
    record { value = refused ∙ none.0; after = none.1 }

pub overflow_cast-n : goal.overflow_cast-n
overflow_cast-n g c =
    let is : c.dol_size.result ≡ Ok c.in_ok-size.size = grind arith in
    let size = sym is ∙ c.dol_size.ensures.value in
    let small : c.in_ok-size.size ≤ 252 = (with_data (g.S.ReadStore.held c.args.store.now) 252 c.in_ok-size.size c.args.pdol.now size).most in
    search rules

pub returns-then-size-lt128 : goal.returns-then-size-lt128
returns-then-size-lt128 g c =
    let is : c.dol_size.result ≡ Ok c.in_ok-size.size = grind arith in
    let size = sym is ∙ c.dol_size.ensures.value in
    let end = done FaultyList get_options (g.S.ReadStore.held c.args.store.now) 252 c.in_ok-size.size c.write_around.result c.args.pdol.now (c.class-class.result ∷ c.instruction-code.result ∷ 0 ∷ 0 ∷ (c.in_ok-size.size + 2) ∷ 0x83 ∷ c.in_ok-size.size ∷ []) c.args.command.now c.write_around.new.command size
    (options_short c.class-class.result c.instruction-code.result c.in_ok-size.size c.class-class.ensures c.instruction-code.ensures c.if-size-lt128.true) c.write_around.ensures.value c.write_around.ensures.after in
    record { value = end.0; after = end.1 }

pub overflow_add-header-2 : goal.overflow_add-header-2
overflow_add-header-2 g c =
    let is : c.dol_size.result ≡ Ok c.in_ok-size.size = grind arith in
    let size = sym is ∙ c.dol_size.ensures.value in
    let small : c.in_ok-size.size ≤ 252 = (with_data (g.S.ReadStore.held c.args.store.now) 252 c.in_ok-size.size c.args.pdol.now size).most in
    search rules

pub write_around-requires-2 : goal.write_around-requires-2
write_around-requires-2 g c =
    let is : c.dol_size.result ≡ Ok c.in_ok-size.size = grind arith in
    let size = sym is ∙ c.dol_size.ensures.value in
    let d = with_data (g.S.ReadStore.held c.args.store.now) 252 c.in_ok-size.size c.args.pdol.now size in
    record { sized = d.sized; room = omega (arith, d.most) }

pub returns : goal.returns
returns g c =
    let is : c.dol_size.result ≡ Ok c.in_ok-size.size = grind arith in
    let size = sym is ∙ c.dol_size.ensures.value in
    let end = done FaultyList get_options (g.S.ReadStore.held c.args.store.now) 252 c.in_ok-size.size c.write_around-2.result c.args.pdol.now (c.class-class.result ∷ c.instruction-code.result ∷ 0 ∷ 0 ∷ (c.in_ok-size.size + 3) ∷ 0x83 ∷ 0x81 ∷ c.in_ok-size.size ∷ []) c.args.command.now c.write_around-2.new.command size
    (options_long c.class-class.result c.instruction-code.result c.in_ok-size.size c.class-class.ensures c.instruction-code.ensures c.if-size-lt128.false) c.write_around-2.ensures.value c.write_around-2.ensures.after in
    record { value = end.0; after = end.1 }
