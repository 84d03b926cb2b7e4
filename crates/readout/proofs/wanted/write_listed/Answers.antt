use Rattle.std.proofs.Common.{◌≡◌, ◌-◌, length, take, Ok, sym, ap, ◌∙◌, subst, arith}
use Rattle.std.proofs.lemmas.Result.{IfOk-at_ok}
use Rattle.readout.specs.declared.object.Absent.TheVariants.{Empty}
use Rattle.readout.specs.Shown.{objects_at, bytes_of, ReadsAs, AllTags}
use Rattle.readout.specs.Listing.{told_in}
use Rattle.readout.specs.Output.{fit_answer, write_after}
use Rattle.readout.specs.Wanted.{wanted_objects, wanted_by, on_tags, value_of}
use Rattle.readout.proofs.Each.{wanted_is, only_wanted, where_written}
use Rattle.readout.proofs.Once.{each_once}
use Rattle.readout.proofs.wanted.write_listed.Goals as goal

pub returns : goal.returns
returns g c =
    let m = g.S.ReadStore.held c.args.store.now in
    let n = c.in_ok-n.n in
    let tags = c.listed_tags.new.tags in
    let out = c.args.out.now in
    let r = c.write_objects.result in
    let is : c.listed_tags.result ≡ Ok n = grind arith in
    let said : Ok (take n tags) ≡ wanted_by m = ap (λ w. told_in w tags) (sym is) ∙ c.listed_tags.ensures.value in
    let all : AllTags (take n tags) = IfOk-at_ok (λ k. AllTags (take k tags)) is c.listed_tags.ensures.tags in
    let z : n - 0 ≡ n = omega arith in
    let e : objects_at Empty (take (n - 0) tags) m ≡ wanted_objects m = ap (λ k. objects_at Empty (take k tags) m) z ∙ wanted_is (take n tags) m all said in
    record {
      answer = c.write_objects.ensures.answer ∙ ap (λ xs. fit_answer (bytes_of xs) (length out)) e ∙ ap (λ w. on_tags w (wanted_objects m) (length out)) said;
      after = c.write_objects.ensures.after ∙ ap (λ xs. write_after r (bytes_of xs) out) e;
      reads = subst (λ xs. ReadsAs r c.write_objects.new.out xs) e c.write_objects.ensures.reads;
      only = where_written r (only_wanted m);
      once = where_written r (each_once (value_of (m 0xDF_8112)));
    }
