use Rattle.std.proofs.Common.{◌≡◌, length, subst, ap₂, rules}
use Rattle.reader.specs.Meanings.{meaning}
use Rattle.isolation.specs.Beside.{session, CameTo}
use Rattle.isolation.proofs.Two.{isolated}
use Rattle.isolation.proofs.beside.play_both.Goals as goal

pub returns : goal.returns
returns g c =
    let a = c.args in
    let one = c.open_and_play-made in
    let two = c.open_and_play-other in
    let wide : length one.new.buffer ≡ length a.buffer.now = search rules in
    let long : length one.new.list ≡ length a.list.now = search rules in
    let m₀ = meaning g.S.ReadStore a.first.now in
    let m₀' = meaning g.T.ReadStore a.second.now in
    let m = meaning g.S.ReadStore one.new.reader in
    let m' = meaning g.T.ReadStore two.new.reader in
    let came = one.ensures.came in
    let came' =
    subst (λ s. CameTo s m₀' two.result two.new.replies m')
    (ap₂ (λ b w. session a.shares a.text.now b w a.others.now) wide long)
    two.ensures.came in
    record {
      first = came;
      second = came';
      law = isolated a.shares a.text.now _ _ _ _ _ _ m₀ m₀' one.result two.result one.new.replies two.new.replies m m' came came';
      rest = (one.ensures.rest, two.ensures.rest);
    }
