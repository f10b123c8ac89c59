mod FitLaws
mod StartLaws
