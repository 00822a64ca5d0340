use Rattle.std.proofs.Common.{refl, ap, sym, ◌∙◌}
use Rattle.ir_core.specs.Parts.{begin_form, boxed, body_form}
use Rattle.ir_core.specs.View.{core_view}
use Rattle.ir_core.proofs.Views.{core-Begin, core-BlockCall, core-Call, core-Class, core-Module}
use Rattle.gen_parts.specs.Emission.{here}
use Rattle.gen_forms.specs.Around.{context_of}
use Rattle.gen_forms.proofs.Emitting.{core-Fn, core-Lambda, core-Def, core-DefOn, core-SingletonClass, emitted-by}
use Rattle.gen_forms.proofs.Making.{function-coded, lambda-coded, method-coded, singleton-coded, class-coded, module-coded, opened-coded}
use Rattle.gen_forms.proofs.form.TermEmits.+emit.Goals as goal

pub emit-returns-in-Call : goal.emit-returns-in-Call
emit-returns-in-Call t c =
    emitted-by c.call.result (context_of c.args.context.now) c.args.a c.args.code.now c.call.new.code _ _ _ _
    c.in-Call.is (core-Call c.in-Call.receiver c.in-Call.name c.in-Call.items) refl c.call.ensures

pub emit-returns-in-BlockCall : goal.emit-returns-in-BlockCall
emit-returns-in-BlockCall t c =
    emitted-by c.block_call.result (context_of c.args.context.now) c.args.a c.args.code.now c.block_call.new.code
    _ _ _ _ c.in-BlockCall.is
    (core-BlockCall c.in-BlockCall.receiver c.in-BlockCall.name c.in-BlockCall.items c.in-BlockCall.block) refl
    c.block_call.ensures

pub emit-returns-in-Begin : goal.emit-returns-in-Begin
emit-returns-in-Begin t c =
    emitted-by c.guarded.result (context_of c.args.context.now) c.args.a c.args.code.now c.guarded.new.code _ _ _ _
    c.in-Begin.is (core-Begin c.in-Begin.begin ∙ ap begin_form (sym c.deref.ensures)) refl c.guarded.ensures

pub emit-returns-in-Fn : goal.emit-returns-in-Fn
emit-returns-in-Fn t c =
    let around = context_of c.args.context.now in
    let spot = here c.args.code.now in
    emitted-by c.make.result around c.args.a c.args.code.now c.make.new.code _ _ _ _ c.in-Fn.is
    (core-Fn c.in-Fn.body) (function-coded around spot c.args.a (body_form c.in-Fn.body.value)) c.make.ensures

pub emit-returns-in-Lambda : goal.emit-returns-in-Lambda
emit-returns-in-Lambda t c =
    let around = context_of c.args.context.now in
    let spot = here c.args.code.now in
    emitted-by c.make-in-Lambda.result around c.args.a c.args.code.now c.make-in-Lambda.new.code _ _ _ _
    c.in-Lambda.is (core-Lambda c.in-Lambda.body)
    (lambda-coded around spot c.args.a (body_form c.in-Lambda.body.value)) c.make-in-Lambda.ensures

pub emit-returns-in-Def : goal.emit-returns-in-Def
emit-returns-in-Def t c =
    let around = context_of c.args.context.now in
    let spot = here c.args.code.now in
    emitted-by c.method.result around c.args.a c.args.code.now c.method.new.code _ _ _ _ c.in-Def.is
    (core-Def c.in-Def.name c.in-Def.body)
    (method-coded around spot c.args.a c.in-Def.name (body_form c.in-Def.body.value)) c.method.ensures

pub emit-returns-in-DefOn : goal.emit-returns-in-DefOn
emit-returns-in-DefOn t c =
    let around = context_of c.args.context.now in
    let spot = here c.args.code.now in
    emitted-by c.define_on.result around c.args.a c.args.code.now c.define_on.new.code _ _ _ _ c.in-DefOn.is
    (core-DefOn c.in-DefOn.e c.in-DefOn.name c.in-DefOn.body)
    (singleton-coded around spot c.args.a (core_view c.in-DefOn.e) c.in-DefOn.name
    (body_form c.in-DefOn.body.value)) c.define_on.ensures

pub emit-returns-in-Class : goal.emit-returns-in-Class
emit-returns-in-Class t c =
    let around = context_of c.args.context.now in
    let spot = here c.args.code.now in
    emitted-by c.class.result around c.args.a c.args.code.now c.class.new.code _ _ _ _ c.in-Class.is
    (core-Class c.in-Class.scope c.in-Class.name c.in-Class.parent c.in-Class.body)
    (class-coded around spot c.args.a (boxed c.in-Class.scope) c.in-Class.name (boxed c.in-Class.parent)
    (body_form c.in-Class.body.value)) c.class.ensures

pub emit-returns-in-Module : goal.emit-returns-in-Module
emit-returns-in-Module t c =
    let around = context_of c.args.context.now in
    let spot = here c.args.code.now in
    emitted-by c.module.result around c.args.a c.args.code.now c.module.new.code _ _ _ _ c.in-Module.is
    (core-Module c.in-Module.scope c.in-Module.name c.in-Module.body)
    (module-coded around spot c.args.a (boxed c.in-Module.scope) c.in-Module.name
    (body_form c.in-Module.body.value)) c.module.ensures

pub emit-returns-in-SingletonClass : goal.emit-returns-in-SingletonClass
emit-returns-in-SingletonClass t c =
    let around = context_of c.args.context.now in
    let spot = here c.args.code.now in
    emitted-by c.singleton_class.result around c.args.a c.args.code.now c.singleton_class.new.code _ _ _ _
    c.in-SingletonClass.is (core-SingletonClass c.in-SingletonClass.e c.in-SingletonClass.body)
    (opened-coded around spot c.args.a (core_view c.in-SingletonClass.e)
    (body_form c.in-SingletonClass.body.value)) c.singleton_class.ensures
