mod Places
mod Progresses
mod Joins
mod Files
mod Selections
mod Apart
