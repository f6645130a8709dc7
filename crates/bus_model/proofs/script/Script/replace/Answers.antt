use Rattle.std.proofs.Common.{◌∙◌, ap, ◌∷◌, ◌<◌, length}
use Rattle.bus_model.specs.Scripts.{rest}
use Rattle.bus_model.proofs.ScriptLaws.{has_first, replaced}
use Rattle.bus_model.proofs.script.Script.replace.Goals as goal

pub returns : goal.returns
returns c =
    let within : c.self.inside.next < length c.self.inside.directives.items = has_first c.self.inside.next c.self.inside.directives.items (rw c.self.view_is c.requires) in
    replaced c.self.inside.next c.self.inside.directives.items c.deref_mut.result.now c.args.directive within c.deref_mut.ensures.value
    ∙ ap (λ script. c.args.directive ∷ rest script) c.self.view_is
